-- What a message sees of a row (Block-STM: read): what the nearest message before it wrote.
use Rattle.std.specs.Prelude.{◌≡◌, ℕ, ◌<◌, ◌≤◌, ◌^◌, filter, length, Option, Some, None}
use Rattle.std.specs.FinMap as map
use Rattle.issuer_words.specs.Words.{IsOfKind, RowKey, RowVal, Rows, key_eq}
use Rattle.stm_memory.specs.Entries.{Entries, Held, Shelf, value_at}
use Rattle.stm_memory.specs.declared.seen.Seen.{Seen}
use Rattle.stm_memory.specs.declared.seen.Seen.TheVariants.{Base, Value, Estimate}

-- no entry stands between these two indices
abbrev pub AreNoneBetween : (ℕ → Option Held) → ℕ → ℕ → Type 0
AreNoneBetween column at index = (i : ℕ) → at < i → i < index → column i ≡ None

-- what is seen from this index, of one row's entries by index
abbrev pub IsNearestBelow : (ℕ → Option Held) → ℕ → Seen → Type 0
-- the opening book, where no entry has an index below it
IsNearestBelow column index Base = (i : ℕ) → i < index → column i ≡ None
-- else the entry of the greatest index below it: a value, or an ESTIMATE
IsNearestBelow column index (Value version value) =
    (version.index < index) × (column version.index ≡ Some (value_at version.incarnation value)) × AreNoneBetween column version.index index
IsNearestBelow column index (Estimate at) =
    (at < index) × ((entry : Held) × (column at ≡ Some entry) × (entry.value ≡ None)) × AreNoneBetween column at index

-- what the message at this index sees of the row
abbrev pub Resolves : Shelf → RowKey → ℕ → Seen → Type 0
Resolves shelf row index seen = IsNearestBelow (shelf row) index seen

-- a value that is seen of the row is of its kind
abbrev pub IsSeenOfKind : RowKey → Seen → Type 0
IsSeenOfKind row Base = Unit {0}
IsSeenOfKind row (Value version value) = IsOfKind row value
IsSeenOfKind row (Estimate at) = Unit {0}

-- a row as it is, or as a value that is seen of it
abbrev pub row_under : Option RowVal → Seen → Option RowVal
row_under was Base = was
row_under was (Value version value) = Some value
row_under was (Estimate at) = was

-- the rows, each as the message at this index sees it where it sees a value
abbrev pub IsLaidOver : Shelf → ℕ → Rows → Rows → Type 0
IsLaidOver shelf index rows laid =
    (row : RowKey) (seen : Seen) → Resolves shelf row index seen → map.get laid row ≡ row_under (map.get rows row) seen

-- how many entries the row has
abbrev pub row_count : Entries → RowKey → ℕ
row_count entries row = length (filter (λ entry. key_eq row entry.0.row) (map.entries entries))

-- it is at most as many as the number has binary digits (0 has none)
abbrev pub IsWithinDigitsOf : ℕ → ℕ → Type 0
IsWithinDigitsOf count number = (digits : ℕ) → number < 2 ^ digits → count ≤ digits
