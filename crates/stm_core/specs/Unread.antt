-- What a version is answered that asks for a row, where the row is written to a place.
use Rattle.std.specs.Prelude.{Option, Result, Ok, Err}
use Rattle.issuer_rows.specs.declared.row_val.RowVal.{RowVal}
use Rattle.stm_core_laws.specs.declared.core_fault.CoreFault.{CoreFault}
use Rattle.stm_core_laws.specs.declared.got.Got.{Got}
use Rattle.stm_core_laws.specs.declared.got.Got.TheVariants.{Row, Estimate}
use Rattle.stm_core.specs.declared.unread.Unread.{Unread}
use Rattle.stm_core.specs.declared.unread.Unread.TheVariants as unread

-- what the core answered, with what stands in the place
abbrev pub got_of : Result (Unit {0}) Unread → Option RowVal → Result Got CoreFault
got_of (Ok _) value = Ok (Row value)
got_of (Err (unread.Estimate at)) value = Ok (Estimate at)
got_of (Err (unread.Refused fault)) value = Err fault
