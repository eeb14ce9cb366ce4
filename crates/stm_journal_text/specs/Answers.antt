-- What a core answers an event, and which answers enter the event in a journal.
use Rattle.std.specs.Prelude.{◌≡◌, ◌⊎◌, ℕ, Bool, true, false, List, [], ◌∷◌, Ok, Err, if◌then◌else◌}
use Rattle.issuer_rows.specs.Agreement.{Executed}
use Rattle.stm_journal_text.specs.declared.entry.Entry.{Entry}
use Rattle.stm_journal_text.specs.declared.event.Event.{Event}
use Rattle.stm_journal_text.specs.declared.event.Event.TheVariants.{Claim, Read, Block, Finish, BeginValidation, ValidateOne, EndValidation, Commit}
use Rattle.stm_memory.specs.declared.version.Version.{Version}
use Rattle.stm_scheduler.specs.Board.{IsRunning}
use Rattle.stm_scheduler.specs.declared.task.Task.TheVariants.{Idle}
use Rattle.stm_core_laws.specs.Words.{IsGotOfKind, Play, PlayStep}
use Rattle.stm_core_laws.specs.Run as call
use Rattle.stm_core_laws.specs.declared.core_fault.CoreFault.TheVariants.{NotRunning, OtherReads, OutOfMemory}
use Rattle.stm_journal_text.specs.declared.core_answer.CoreAnswer.{CoreAnswer}
use Rattle.stm_journal_text.specs.declared.core_answer.CoreAnswer.TheVariants.{Claimed, Got, Blocked, Finished, Validating, Ended, Committed, Refused}

-- From old, the core may answer the event at this seat so, and new is the core after it.
abbrev pub Answers : Play → ℕ → Event → CoreAnswer → Play → Type 0
Answers old seat Claim (Claimed task) new = PlayStep old (call.Claim task) new
Answers old seat (Read v row) (Got got) new = PlayStep old (call.Read v row (Ok got)) new
Answers old seat (Read v row) (Refused fault) new = PlayStep old (call.Read v row (Err fault)) new
Answers old seat (Block v on) Blocked new = PlayStep old (call.Block v on (Ok tt)) new
Answers old seat (Block v on) (Refused fault) new = PlayStep old (call.Block v on (Err fault)) new
-- an event has no execution: some true one, of what the version was answered, was handed in
Answers old seat (Finish v) (Finished handed) new = (x : Executed) × PlayStep old (call.Finish v x (Ok handed)) new
-- a version that isn't running is refused whatever is handed in
Answers old seat (Finish v) (Refused NotRunning) new = ¬ IsRunning old.state.board v × (new ≡ old)
Answers old seat (Finish v) (Refused fault) new = (x : Executed) × PlayStep old (call.Finish v x (Err fault)) new
Answers old seat (BeginValidation v) (Validating ended) new = PlayStep old (call.Begin seat v (Ok ended)) new
Answers old seat (BeginValidation v) (Refused fault) new = PlayStep old (call.Begin seat v (Err fault)) new
Answers old seat ValidateOne (Validating ended) new = PlayStep old (call.ValidateOne seat (Ok ended)) new
Answers old seat ValidateOne (Refused fault) new = PlayStep old (call.ValidateOne seat (Err fault)) new
Answers old seat EndValidation (Ended passed) new = PlayStep old (call.End seat (Ok passed)) new
Answers old seat EndValidation (Refused fault) new = PlayStep old (call.End seat (Err fault)) new
Answers old seat Commit (Committed done) new = PlayStep old (call.Commit done) new
-- no other answer is given
Answers old seat event answer new = ⊥

-- An entry of a journal can be answered so: none stands where memory ran out, nor for an execution of other reads.
abbrev pub stands : CoreAnswer → Bool
stands (Refused OutOfMemory) = false
stands (Refused OtherReads) = false
stands answer = true

-- an event that is answered so is entered: a claim that nothing is handed out for is not
abbrev pub enters : CoreAnswer → Bool
enters (Claimed Idle) = false
enters answer = stands answer

-- what the event at this seat enters, where it is answered so
abbrev pub entered : ℕ → Event → CoreAnswer → List Entry
entered seat event answer = if enters answer then record { seat = seat; event = event } ∷ [] else []

-- the same, or there was no room for the entry, and nothing changed
abbrev pub AnswersTo : Play → ℕ → Event → CoreAnswer → Play → Type 0
AnswersTo old seat event answer new = Answers old seat event answer new ⊎ ((answer ≡ Refused OutOfMemory) × (new ≡ old))

-- this execution is answered so
abbrev pub FinishAnswers : Play → Version → Executed → CoreAnswer → Play → Type 0
FinishAnswers old v x (Finished handed) new = PlayStep old (call.Finish v x (Ok handed)) new
FinishAnswers old v x (Refused fault) new = PlayStep old (call.Finish v x (Err fault)) new
-- no other answer is given
FinishAnswers old v x answer new = ⊥

-- the same, or there was no room for the entry, and nothing changed
abbrev pub FinishAnswersTo : Play → Version → Executed → CoreAnswer → Play → Type 0
FinishAnswersTo old v x answer new = FinishAnswers old v x answer new ⊎ ((answer ≡ Refused OutOfMemory) × (new ≡ old))

-- any event but that an execution is handed in
abbrev pub IsNoFinish : Event → Type 0
IsNoFinish (Finish v) = ⊥
IsNoFinish event = Unit {0}

-- a value that a read is answered is of the row's kind
abbrev pub IsAnswerOfKind : Event → CoreAnswer → Type 0
IsAnswerOfKind (Read v row) (Got got) = IsGotOfKind row got
IsAnswerOfKind event answer = Unit {0}
