-- Rows that were read and rows that are written, each list in the order of first touch.
use Rattle.std.specs.Prelude.{◌≡◌, ◌<◌, List, [], ◌∷◌, ◌++◌, length, map, Option, Some, None, IfSome}
use Rattle.std.specs.List.{AllByRecursion, IsDistinct}
use Rattle.std.specs.Map.{lookup}
use Rattle.indexmap.specs.IndexMap.{insert_entry}
use Rattle.issuer_words.specs.Words.{IsOfKind, Reads, RowKey, RowVal, Writes, key_eq}

-- what a row is, if it is in the list
abbrev pub value_in : {V : Type 0} → List (RowKey × V) → RowKey → Option V
value_in rows key = lookup (key_eq key) rows

-- no row is in the list twice
abbrev pub IsOnceEach : {V : Type 0} → List (RowKey × V) → Type 0
IsOnceEach rows = IsDistinct key_eq (map (λ row. row.0) rows)

-- one more row was read
abbrev pub logged : Reads → RowKey → Option RowVal → Reads
logged reads key row = reads ++ (key, row) ∷ []

-- what the row that was read last was, where this one was read before them
abbrev pub latest_after : Option RowVal → Reads → Option RowVal
latest_after row [] = row
latest_after row (read ∷ reads) = latest_after read.1 reads

-- what the row that was read last was; nothing where no row was read
abbrev pub latest : Reads → Option RowVal
latest reads = latest_after None reads

-- one more row is written: a row that is written again keeps its place
abbrev pub put : Writes → RowKey → RowVal → Writes
put writes key row = insert_entry key_eq writes key row

-- what was read is of its key's kind
abbrev pub AreReadsOfKind : Reads → Type 0
AreReadsOfKind reads = AllByRecursion (λ read. IfSome read.1 (IsOfKind read.0)) reads

-- what is written is of its key's kind
abbrev pub AreWritesOfKind : Writes → Type 0
AreWritesOfKind writes = AllByRecursion (λ write. IsOfKind write.0 write.1) writes

-- the rows of a list that need not be there
abbrev pub rows_in : {V : Type 0} → Option (List (RowKey × V)) → List (RowKey × V)
rows_in None = []
rows_in (Some rows) = rows

-- rows stand behind the first few only where those are all there
abbrev pub IsFilled : {V : Type 0} → List (RowKey × V) → List (RowKey × V) → Type 0
IsFilled few more = length few < 8 → more ≡ []
