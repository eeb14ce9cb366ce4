-- Values of rows and their kinds.
use Rattle.std.specs.Prelude.{◌≡◌, ℕ}
use Rattle.issuer_rows.specs.RowKey.{kind_of}
use Rattle.issuer_rows.specs.declared.row_key.RowKey.{RowKey}
use Rattle.issuer_rows.specs.declared.row_val.RowVal.{RowVal}
use Rattle.issuer_rows.specs.declared.row_val.RowVal.TheVariants as val

-- the place of a value's kind among the five
abbrev pub kind_of_value : RowVal → ℕ
kind_of_value (val.Card row) = 0
kind_of_value (val.Velocity row) = 1
kind_of_value (val.Budget row) = 2
kind_of_value (val.Kept original) = 3
kind_of_value (val.Ahead mark) = 3
kind_of_value (val.Account row) = 4

-- the value is of the key's kind
abbrev pub IsOfKind : RowKey → RowVal → Type 0
IsOfKind key value = kind_of key ≡ kind_of_value value
