-- What a worker does in its turn, by what its seat holds (Block-STM).
use Rattle.std.specs.Prelude.{◌≡◌, ◌⊎◌, ℕ, ◌<◌, true, false, List, [], ◌∷◌, ◌++◌}
use Rattle.std.specs.List.{AllByRecursion}
use Rattle.issuer_words.specs.Words.{Frame, RowKey, decision}
use Rattle.stm_core_laws.specs.Words.{IsAt, Log, Play, State, slot}
use Rattle.stm_journal_text.specs.Words.{Answers, IsLogged, entered, log_rows, stands}
use Rattle.stm_journal_text.specs.declared.core_answer.CoreAnswer.{CoreAnswer}
use Rattle.stm_journal_text.specs.declared.entry.Entry.{Entry}
use Rattle.stm_journal_text.specs.declared.event.Event.{Event}
use Rattle.stm_scheduler.specs.declared.task.Task.TheVariants as task
use Rattle.stm_core_laws.specs.declared.got.Got.TheVariants as got
use Rattle.stm_journal_text.specs.declared.event.Event.TheVariants.{Claim, Read, Block, Finish, BeginValidation, ValidateOne, EndValidation, Commit}
use Rattle.stm_journal_text.specs.declared.core_answer.CoreAnswer.TheVariants.{Claimed, Got, Finished, Validating, Ended, Committed}
use Rattle.stm_journal.specs.Journaled.{Journaled}
use Rattle.stm_journal.specs.declared.holding.Holding.{Holding}
use Rattle.stm_journal.specs.declared.holding.Holding.TheVariants as holds

-- the rows that the table needs for this body, on those that were logged
abbrev pub needs_on : Log → Frame → List RowKey
needs_on log frame = (decision (log_rows log) frame).needs

-- of these rows it is the first that wasn't logged
abbrev pub IsFirstUnlogged : Log → List RowKey → RowKey → Type 0
IsFirstUnlogged log rows row =
    (before : List RowKey) × (after : List RowKey) × (rows ≡ before ++ row ∷ after) × AllByRecursion (IsLogged log) before × ¬ IsLogged log row

-- A seat that holds this makes this event in its turn.
abbrev pub Makes : State → Holding → Event → Type 0
-- one that holds nothing claims
Makes s holds.Nothing Claim = Unit {0}
-- One that executes a version decides its message anew on what was logged for it. It asks for the first row that it needs and that
-- wasn't logged; where each was, it hands the execution in.
Makes s (holds.Execution v) (Read w row) =
    (w ≡ v) × ((frame : Frame) × IsAt s.frames v.index frame × IsFirstUnlogged (slot s v.index).log (needs_on (slot s v.index).log frame) row)
Makes s (holds.Execution v) (Finish w) =
    (w ≡ v) × ((frame : Frame) × IsAt s.frames v.index frame × AllByRecursion (IsLogged (slot s v.index).log) (needs_on (slot s v.index).log frame))
-- one whose version met an ESTIMATE aborts it
Makes s (holds.Estimate v on) (Block w at) = (w ≡ v) × (at ≡ on)
-- one that holds a validation begins it, goes over its reads one by one, closes it, and then commits
Makes s (holds.Validation v) (BeginValidation w) = w ≡ v
Makes s holds.Reads ValidateOne = Unit {0}
Makes s holds.Verdict EndValidation = Unit {0}
Makes s holds.Commits Commit = Unit {0}
-- no seat makes another event, and one that ended makes none
Makes s holding event = ⊥

-- What a seat that held this holds after this answer.
abbrev pub then_holds : Holding → CoreAnswer → Holding
-- what it claimed; the seat ends where nothing is to be done any more
then_holds holds.Nothing (Claimed (task.Execute v)) = holds.Execution v
then_holds holds.Nothing (Claimed (task.Validate v)) = holds.Validation v
then_holds holds.Nothing (Claimed task.Done) = holds.Ended
-- it goes on with its version, unless that met an ESTIMATE
then_holds (holds.Execution v) (Got (got.Row value)) = holds.Execution v
then_holds (holds.Execution v) (Got (got.Estimate on)) = holds.Estimate v on
-- a version that is handed out where it finishes is validated by the same seat
then_holds (holds.Execution v) (Finished true) = holds.Validation v
-- a validation goes on to its end
then_holds (holds.Validation v) (Validating false) = holds.Reads
then_holds (holds.Validation v) (Validating true) = holds.Verdict
then_holds holds.Reads (Validating false) = holds.Reads
then_holds holds.Reads (Validating true) = holds.Verdict
-- whether it was passed or not, what can be is committed, until nothing can
then_holds holds.Verdict (Ended passed) = holds.Commits
then_holds holds.Commits (Committed true) = holds.Commits
-- nothing was handed out, a version is finished or aborted, all is committed that can be, or the core refused
then_holds holding answer = holds.Nothing

-- a seat that ended enters nothing more
abbrev pub Rests : Play → Holding → List Entry → Holding → Play → Type 0
Rests old holding made next new = (holding ≡ holds.Ended) × (made ≡ []) × (next ≡ holding) × (new ≡ old)

-- The seat makes its event. The core answers it, and refuses it neither where memory ran out nor because other rows were read; what is
-- answered enters it, unless it was a claim that nothing was handed out for.
pub record Acts (old : Play) (seat : ℕ) (holding : Holding) (made : List Entry) (next : Holding) (new : Play) : Type 0 where
  pub event : Event
  pub answer : CoreAnswer
  pub makes : Makes old.state holding event
  pub stood : stands answer ≡ true
  pub answered : Answers old seat event answer new
  pub enters : made ≡ entered seat event answer
  pub held : next ≡ then_holds holding answer

-- One turn of a seat that holds this: what it enters, and what it holds then.
abbrev pub IsTurn : Play → ℕ → Holding → List Entry → Holding → Play → Type 0
IsTurn old seat holding made next new = Rests old holding made next new ⊎ Acts old seat holding made next new

-- the same of a core with its journal
abbrev pub HasTurned : Journaled → ℕ → Holding → Holding → Journaled → Type 0
HasTurned old seat holding next new =
    (made : List Entry) × (new.entries ≡ old.entries ++ made) × IsTurn old.core seat holding made next new.core

-- a version that is held is one of so many messages
abbrev pub IsOfMessage : ℕ → Holding → Type 0
IsOfMessage n (holds.Execution v) = v.index < n
IsOfMessage n holding = Unit {0}
