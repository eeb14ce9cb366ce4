-- What the core's calls answer, as answers to events.
use Rattle.std.specs.Prelude.{Bool, Option, Result, Ok, Err}
use Rattle.issuer_rows.specs.declared.row_val.RowVal.{RowVal}
use Rattle.stm_scheduler.specs.declared.task.Task.{Task}
use Rattle.stm_core_laws.specs.declared.core_fault.CoreFault.{CoreFault}
use Rattle.stm_core_laws.specs.declared.got.Got.TheVariants.{Row, Estimate}
use Rattle.stm_core.specs.declared.unread.Unread.{Unread}
use Rattle.stm_core.specs.declared.unread.Unread.TheVariants as unread
use Rattle.stm_journal_text.specs.declared.core_answer.CoreAnswer.{CoreAnswer}
use Rattle.stm_journal_text.specs.declared.core_answer.CoreAnswer.TheVariants.{Claimed, Got, Validating, Ended, Committed, Refused}

-- to a claim
abbrev pub claimed : Result Task CoreFault → CoreAnswer
claimed (Ok task) = Claimed task
claimed (Err fault) = Refused fault

-- to a read, with what stands in the place that it is written to
abbrev pub was_read : Result (Unit {0}) Unread → Option RowVal → CoreAnswer
was_read (Ok _) value = Got (Row value)
was_read (Err (unread.Estimate at)) value = Got (Estimate at)
was_read (Err (unread.Refused fault)) value = Refused fault

-- to a validation that begins or goes on
abbrev pub validated : Result Bool CoreFault → CoreAnswer
validated (Ok is_ended) = Validating is_ended
validated (Err fault) = Refused fault

-- to the end of a validation
abbrev pub ended : Result Bool CoreFault → CoreAnswer
ended (Ok has_passed) = Ended has_passed
ended (Err fault) = Refused fault

-- to a commit
abbrev pub committed : Result Bool CoreFault → CoreAnswer
committed (Ok done) = Committed done
committed (Err fault) = Refused fault
