-- The entries of rows as they are kept: a chain for each row, in the order of its indices.
use Rattle.std.specs.Prelude.{◌≡◌, ◌≢◌, ◌⊎◌, ℕ, ◌<◌, ◌≤◌, List, [], ◌∷◌, ◌==◌, length, map, slice_index_or, slice_get, if◌then◌else◌, Option, Some, None, IfSome}
use Rattle.std.specs.List.{AllPairs}
use Rattle.indexmap.specs.IndexMap.{insert_entry}
use Rattle.issuer_words.specs.Words.{IsOfKind, RowKey, RowVal, key_eq}
use Rattle.issuer_view.specs.Words.{IsOnceEach, value_in}
use Rattle.stm_memory.specs.Entries.{Held, Shelf}
use Rattle.stm_memory.specs.declared.link.Link.{Link}
use Rattle.stm_memory.specs.declared.seen.Seen.{Seen}
use Rattle.stm_memory.specs.declared.seen.Seen.TheVariants.{Base, Value, Estimate}

-- a chain: its links, and for how many more there is room
pub record Chain : Type 0 where
  pub links : List Link
  pub room : ℕ

-- the entry that a link is
abbrev pub held_of : Link → Held
held_of link = record { incarnation = link.incarnation; value = link.value }

-- what is seen where an entry that is so is the nearest one
abbrev pub seen_by : ℕ → ℕ → Option RowVal → Seen
seen_by index incarnation None = Estimate index
seen_by index incarnation (Some value) = Value (record { index = index; incarnation = incarnation }) value

-- what is seen where this link is the nearest one, or none is
abbrev pub seen_of : Option Link → Seen
seen_of None = Base
seen_of (Some link) = seen_by link.index link.incarnation link.value

-- the entry at the index
abbrev pub found : List Link → ℕ → Option Held
found [] index = None
found (link ∷ links) index = if link.index == index then Some (held_of link) else found links index

-- each link's index is above those before it
abbrev pub AreInOrder : List Link → Type 0
AreInOrder links = AllPairs (λ link later. link.index < later.index) links

-- the link at this place is the index's
abbrev pub StandsAt : List Link → ℕ → ℕ → Type 0
StandsAt links index place = (place < length links) × ((d : Link) → (slice_index_or links place d).index ≡ index)

-- no link is the index's, and one would stand at this place
abbrev pub FitsAt : List Link → ℕ → ℕ → Type 0
FitsAt links index place =
    (place ≤ length links)
    × ((k : ℕ) (d : Link) → k < place → (slice_index_or links k d).index < index)
    × ((k : ℕ) (d : Link) → place ≤ k → k < length links → index < (slice_index_or links k d).index)

-- rows, each with its chain; a row's place in the list is its number
abbrev pub Chains : Type 0
Chains = List (RowKey × Chain)

-- the links of a chain, if there is one
abbrev pub links_in : Option Chain → List Link
links_in None = []
links_in (Some chain) = chain.links

-- the room in a chain, if there is one
abbrev pub room_in : Option Chain → ℕ
room_in None = 0
room_in (Some chain) = chain.room

-- what stands for each row at each index
abbrev pub stands : Chains → Shelf
stands chains row index = found (links_in (value_in chains row)) index

-- for how many more entries of the row there is room
abbrev pub room_of : Chains → RowKey → ℕ
room_of chains row = room_in (value_in chains row)

-- the rows that have a chain, by number
abbrev pub rows_of : Chains → List RowKey
rows_of chains = map (λ c. c.0) chains

-- the row with this number
abbrev pub row_at : Chains → ℕ → Option RowKey
row_at chains number = slice_get (rows_of chains) number

-- each row has one chain, and each value is of its row's kind
pub record AreSound (chains : Chains) : Type 0 where
  pub once : IsOnceEach chains
  pub kind : (row : RowKey) (index : ℕ) (entry : Held) → stands chains row index ≡ Some entry → IfSome entry.value (IsOfKind row)

-- this stands for the row at the index now, and nothing else changed
abbrev pub IsChangedAt : Chains → Chains → RowKey → ℕ → Option Held → Type 0
IsChangedAt old new row index entry =
    (stands new row index ≡ entry)
    × ((r : RowKey) (i : ℕ) → (r ≢ row) ⊎ (i ≢ index) → stands new r i ≡ stands old r i)

-- the row has a chain now: its own, or else a new one, without links
abbrev pub IsMade : Chains → Chains → RowKey → Type 0
IsMade old new row =
    (value_in old row ≢ None → new ≡ old)
    × (value_in old row ≡ None → (chain : Chain) × (chain.links ≡ []) × (new ≡ insert_entry key_eq old row chain))
