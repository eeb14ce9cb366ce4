-- What a multi-version memory holds: entries, and room for more.
use Rattle.std.specs.Prelude.{◌≡◌, ℕ, ◌<◌, ◌≤◌, List, [], ◌∷◌, ◌++◌, length, map, slice_get, slice_index_or, Option, Some, IsSome, refl}
use Rattle.std.specs.Coded.{Coded, code_by, coded×, coded_list, coded_ℕ, coded_option}
use Rattle.std.specs.FinMap as finite
use Rattle.issuer_words.specs.Words.{RowKey, RowVal, Writes}
use Rattle.issuer_view.specs.Words.{IsOnceEach, value_in}
use Rattle.stm_memory.specs.Chains.{Chains, held_of, row_at, stands}
use Rattle.stm_memory.specs.Entries.{Entries, Held, Place, place_of}
use Rattle.stm_memory.specs.declared.link.Link.{Link}

-- the rows that one message has entries of, by number, and for how many more there is room
pub record WrittenRows : Type 0 where
  pub numbers : List ℕ
  pub room : ℕ

-- for how many more entries there is room: of each row, and of each message
pub record Room : Type 0 where
  pub rows : List (RowKey × ℕ)
  pub messages : List ℕ

-- the entries, and the room beside them
pub record Memory : Type 0 where
  pub entries : Entries
  pub room : Room

-- there is room for one more entry of the row
abbrev pub HasRoomOf : List (RowKey × ℕ) → RowKey → Type 0
HasRoomOf rows row = (room : ℕ) × (value_in rows row ≡ Some room) × (0 < room)

-- there is room for this write set as that of the message at this index
abbrev pub HasRoom : Room → ℕ → Writes → Type 0
HasRoom room index writes =
    ((row : RowKey) → IsSome (value_in writes row) → HasRoomOf room.rows row)
    × ((free : ℕ) × (slice_get room.messages index ≡ Some free) × (length writes ≤ free))

-- a row's links with their places
abbrev pub placed_links : RowKey → List Link → List (Place × Held)
placed_links row links = map (λ link. (place_of row link.index, held_of link)) links

-- all links with their places
abbrev pub placed : Chains → List (Place × Held)
placed [] = []
placed (c ∷ chains) = placed_links c.0 c.1.links ++ placed chains

-- the memory that these chains and lists are
abbrev pub memory_of : Chains → List WrittenRows → Memory
memory_of chains lists = record {
  entries = finite.from_entries (placed chains);
  room = record { rows = map (λ c. (c.0, c.1.room)) chains; messages = map (λ l. l.room) lists };
}

-- the rows that the message at this index has entries of
abbrev pub list_at : List WrittenRows → ℕ → WrittenRows
list_at lists index = slice_index_or lists index (record { numbers = []; room = 0 })

-- each listed number is a row's, and each row of which an entry has this index is listed
pub record AreListed (chains : Chains) (numbers : List ℕ) (index : ℕ) : Type 0 where
  pub rows : (k n : ℕ) → slice_get numbers k ≡ Some n → n < length chains
  pub entries : (row : RowKey) (entry : Held) → stands chains row index ≡ Some entry → (k n : ℕ) × (slice_get numbers k ≡ Some n) × (row_at chains n ≡ Some row)

-- each row has one chain, and each message's list names the rows of all its entries
pub record AreKept (chains : Chains) (lists : List WrittenRows) : Type 0 where
  pub once : IsOnceEach chains
  pub listed : (index : ℕ) → AreListed chains (list_at lists index).numbers index

-- how a place is stored
abbrev pub place_code : Coded RowKey → Coded Place
place_code key = code_by (RowKey × ℕ) (coded× key coded_ℕ) (λ p. (p.row, p.index)) (λ p. record { row = p.0; index = p.1 }) (λ _. refl)

-- how an entry is stored
abbrev pub held_code : Coded RowVal → Coded Held
held_code val = code_by (ℕ × Option RowVal) (coded× coded_ℕ (coded_option val)) (λ h. (h.incarnation, h.value)) (λ p. record { incarnation = p.0; value = p.1 }) (λ _. refl)

-- how a memory is stored
abbrev pub memory_code : Coded RowKey → Coded RowVal → Coded Memory
memory_code key val =
    code_by (Entries × (List (RowKey × ℕ) × List ℕ))
    (coded× (finite.code (place_code key) (held_code val)) (coded× (coded_list (coded× key coded_ℕ)) (coded_list coded_ℕ)))
    (λ m. (m.entries, (m.room.rows, m.room.messages)))
    (λ p. record { entries = p.0; room = record { rows = p.1.0; messages = p.1.1 } })
    (λ _. refl)
