-- What a run's brand has before the run picks it.
use Rattle.std.specs.Prelude.{[]}
use Rattle.std.specs.FinMap as map
use Rattle.atomic_table.specs.Seated.{TableId}
use Rattle.std.specs.Coded.{Coded}
use Rattle.issuer_rows.specs.Fold.{Rows}
use Rattle.issuer_rows.specs.contracts.row_key.RowKey.{the_row as key_row}
use Rattle.issuer_rows.specs.contracts.row_val.RowVal.{the_row as val_row}

-- the name of no table
abbrev pub no_table : TableId
no_table = record { words = 0; slots = 0; views_name = 0; atom = 0; block = 0; offset = 0; slot_names = [] }

-- the book that has no row
abbrev pub no_rows : Rows
no_rows = map.empty

-- rows are stored by their keys and values
pub rows_coded : Coded Rows
rows_coded = map.code key_row.coded val_row.coded
