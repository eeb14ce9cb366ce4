-- A row that is given back what it was.
use Rattle.std.specs.Prelude.{Option, Some, None}
use Rattle.std.specs.FinMap as map
use Rattle.issuer_words.specs.Words.{RowKey, RowVal, Rows}

-- the rows where one is as it was: with this value, or absent
abbrev pub with_former : Rows → RowKey → Option RowVal → Rows
with_former rows key (Some former) = map.insert rows key former
with_former rows key None = map.remove rows key
