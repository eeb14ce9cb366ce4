-- Rows that are written with one value each.
use Rattle.std.specs.Prelude.{◌≡◌, Contains}
use Rattle.issuer_rows.specs.Plan.{Writes}
use Rattle.issuer_rows.specs.declared.row_key.RowKey.{RowKey}
use Rattle.issuer_rows.specs.declared.row_val.RowVal.{RowVal}

-- no row is written with two values
abbrev pub PutsOnce : Writes → Type 0
PutsOnce writes = (put other : RowKey × RowVal) → Contains writes put → Contains writes other → put.0 ≡ other.0 → put.1 ≡ other.1
