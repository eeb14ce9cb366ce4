-- Books: finite maps from row keys to row values.
use Rattle.std.specs.Prelude.{◌≡◌, List, Option, Some, IfSome}
use Rattle.std.specs.FinMap as map
use Rattle.std.specs.List.{AllByRecursion}
use Rattle.std.specs.Map.{lookup}
use Rattle.issuer_rows.specs.Fold.{Rows}
use Rattle.issuer_rows.specs.RowKey.{key_eq}
use Rattle.issuer_rows.specs.declared.row_key.RowKey.{RowKey}
use Rattle.issuer_rows.specs.declared.row_val.RowVal.{RowVal}
use Rattle.issuer_rows.specs.RowVal.{IsOfKind}

-- the value at a key, if there is one
abbrev pub value_at : List (RowKey × RowVal) → RowKey → Option RowVal
value_at rows key = lookup (key_eq key) rows

-- each value that is found under a key is of its kind
abbrev pub AreOfKind : List (RowKey × RowVal) → Type 0
AreOfKind rows = (key : RowKey) → IfSome (value_at rows key) (IsOfKind key)

-- each of these rows is of its key's kind
abbrev pub AllOfKind : List (RowKey × RowVal) → Type 0
AllOfKind rows = AllByRecursion (λ row. IsOfKind row.0 row.1) rows

-- each row of the one is a row of the other
abbrev pub IsWithin : Rows → Rows → Type 0
IsWithin mine theirs = (key : RowKey) → IfSome (map.get mine key) (λ val. map.get theirs key ≡ Some val)
