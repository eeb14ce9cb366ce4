use Rattle.std.proofs.Common.{take}
use Rattle.std.specs.List.{AllByRecursion}
use Rattle.issuer_rows.specs.Agreement.{keys_read}
use Rattle.stm_core_laws.specs.State.{slot}
use Rattle.stm_journal_text.specs.Logged.{IsLogged}
use Rattle.stm_journal.proofs.deciding.first_unlogged.Given as goal

abbrev pub invariant-loop-place : goal.invariant-loop-place
invariant-loop-place l = AllByRecursion (IsLogged (slot l.core.state l.index).log) (keys_read (take l.place l.reads))
