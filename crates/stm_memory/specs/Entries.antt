-- Entries by row and index (Block-STM).
use Rattle.std.specs.Prelude.{◌≡◌, ◌≢◌, ℕ, Option, Some, None, option_map}
use Rattle.std.specs.FinMap as map
use Rattle.std.specs.Ordering.{nat_cmp, on, then_cmp}
use Rattle.std.specs.declared.cmp.Ordering.{Ordering}
use Rattle.issuer_words.specs.Words.{RowKey, RowVal, Writes, key_cmp, overlay}
use Rattle.stm_memory.specs.declared.version.Version.{Version}

-- a row and an index: where an entry stands
pub record Place : Type 0 where
  pub row : RowKey
  pub index : ℕ

-- an entry: the incarnation that wrote it, and what it wrote; without a value it is an ESTIMATE
pub record Held : Type 0 where
  pub incarnation : ℕ
  pub value : Option RowVal

-- places go by row, and then by index
abbrev pub place_cmp : Place → Place → Ordering
place_cmp = then_cmp (on (λ p. p.row) key_cmp) (on (λ p. p.index) nat_cmp)

-- the place of the row's entry at this index
abbrev pub place_of : RowKey → ℕ → Place
place_of row index = record { row = row; index = index }

-- the entries: at most one for each row and index
abbrev pub Entries : Type 0
Entries = map.FinMap place_cmp Held

-- what stands for each row at each index
abbrev pub Shelf : Type 0
Shelf = RowKey → ℕ → Option Held

-- the same of entries
abbrev pub held : Entries → Shelf
held entries row index = map.get entries (place_of row index)

-- a value that this incarnation wrote
abbrev pub value_at : ℕ → RowVal → Held
value_at incarnation value = record { incarnation = incarnation; value = Some value }

-- the same entry as an ESTIMATE
abbrev pub estimate_of : Held → Held
estimate_of entry = record { incarnation = entry.incarnation; value = None }

-- what the write set has for the row: as in a book, the last write wins
abbrev pub written : Writes → RowKey → Option RowVal
written writes row = map.get (overlay map.empty writes) row

-- no index but this one has other entries than before
abbrev pub AreKeptBut : ℕ → Entries → Entries → Type 0
AreKeptBut index old new = (row : RowKey) (i : ℕ) → i ≢ index → held new row i ≡ held old row i

-- the entries of the version's index are what it wrote, at its incarnation, and no others; those of other indices stay
abbrev pub AreReplaced : Version → Writes → Entries → Entries → Type 0
AreReplaced version writes old new =
    ((row : RowKey) → held new row version.index ≡ option_map (value_at version.incarnation) (written writes row))
    × AreKeptBut version.index old new

-- the entries of the index are ESTIMATEs now; those of other indices stay
abbrev pub AreEstimated : ℕ → Entries → Entries → Type 0
AreEstimated index old new =
    ((row : RowKey) → held new row index ≡ option_map estimate_of (held old row index))
    × AreKeptBut index old new

-- a row is written that had no entry of this index
abbrev pub IsNewLocation : Entries → ℕ → Writes → Type 0
IsNewLocation entries index writes =
    (row : RowKey) × (value : RowVal) × (written writes row ≡ Some value) × (held entries row index ≡ None)
