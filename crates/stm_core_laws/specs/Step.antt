-- Which answer a core may give to a call, and the state after it. A refusal leaves the state as it was.
use Rattle.std.specs.Prelude.{◌≡◌, ◌≢◌, ℕ, ◌+◌, ◌<◌, Bool, true, false, ◌||◌, nat_eq, [], ◌∷◌, ◌++◌, length, Option, Some, None, IfSome, Result, Ok, Err, ◌⊎◌}
use Rattle.issuer_words.specs.Words.{Executed, IsOfKind, RowKey, RowVal}
use Rattle.stm_memory.specs.Words.{AreEstimated, AreReplaced, Entries, IsNewLocation, Resolves}
use Rattle.stm_memory.specs.declared.seen.Seen.{Seen}
use Rattle.stm_memory.specs.declared.version.Version.{Version}
use Rattle.stm_memory.specs.declared.seen.Seen.TheVariants as seen
use Rattle.stm_scheduler.specs.Board.{Board, mark, claimed, aborted_as, finished, lowered, passed, aborted, committed_more, IsReady, IsRunning, IsOpen, IsFresh, IsWaitedFor}
use Rattle.stm_scheduler.specs.declared.status.Status.{Status}
use Rattle.stm_scheduler.specs.declared.status.Status.TheVariants as status
use Rattle.stm_scheduler.specs.declared.task.Task.{Task}
use Rattle.stm_scheduler.specs.declared.task.Task.TheVariants.{Execute, Validate, Idle, Done}
use Rattle.stm_core_laws.specs.Log.{logged_in, logged_of, AreLogged, ResolvesAs}
use Rattle.stm_core_laws.specs.State.{State, slot, empty_slot, shelf, validation_of, with_slot, with_validation, IsAt}
use Rattle.stm_core_laws.specs.declared.validation.Validation.{Validation}
use Rattle.stm_core_laws.specs.declared.core_fault.CoreFault.{CoreFault}
use Rattle.stm_core_laws.specs.declared.core_fault.CoreFault.TheVariants.{NotRunning, OtherReads, Outdated, OutOfMemory, Exhausted}
use Rattle.stm_core_laws.specs.declared.got.Got.{Got}
use Rattle.stm_core_laws.specs.declared.got.Got.TheVariants as got
use Rattle.stm_core_laws.specs.declared.logged.Logged.{Logged}

-- Asked for a task. Which message is handed out, and when none is, is left open.
abbrev pub ClaimStep : State → Task → State → Type 0
-- all messages are committed
ClaimStep old Done new = (old.board.committed ≡ length old.frames) × (new ≡ old)
-- a ready message is handed out, at its present incarnation
ClaimStep old (Execute v) new =
    (old.board.committed ≢ length old.frames) × IsReady old.board v.index × (v.incarnation ≡ (mark old.board v.index).incarnation)
    × (new ≡ record old { board = claimed old.board v.index })
-- an executed message is to be validated, at its present incarnation
ClaimStep old (Validate v) new = (old.board.committed ≢ length old.frames) × IsOpen old.board v × (new ≡ old)
-- nothing is handed out
ClaimStep old Idle new = (old.board.committed ≢ length old.frames) × (new ≡ old)

-- what the version logged of the row
abbrev pub logged_by : State → Version → RowKey → Option (Option RowVal)
logged_by s v row = logged_in (slot s v.index).log row

-- the version sees the row so, and did not log it before
abbrev pub IsSeen : State → Version → RowKey → Seen → Type 0
IsSeen s v row seen = (logged_by s v row ≡ None) × Resolves (shelf s) row v.index seen

-- the state after the version logged one more read
abbrev pub with_read : State → Version → RowKey → Logged → State
with_read s v row logged = with_slot s v.index (record (slot s v.index) { log = (slot s v.index).log ++ (row, logged) ∷ [] })

-- a value that is got of the row is of its kind
abbrev pub IsGotOfKind : RowKey → Got → Type 0
IsGotOfKind row (got.Row value) = IfSome value (IsOfKind row)
IsGotOfKind row (got.Estimate at) = Unit {0}

-- A version asks for a row.
abbrev pub ReadStep : State → Version → RowKey → Result Got CoreFault → State → Type 0
-- a row that it logged gives the logged answer; any other is resolved, logged and answered
ReadStep old v row (Ok (got.Row value)) new =
    IsRunning old.board v
    × (((logged_by old v row ≡ Some value) × (new ≡ old))
    ⊎ ((seen : Seen) × (logged : Logged) × IsSeen old v row seen × (logged_of old.opening row seen ≡ Some logged)
    × (value ≡ logged.value) × (new ≡ with_read old v row logged)))
-- an ESTIMATE is not logged
ReadStep old v row (Ok (got.Estimate at)) new = IsRunning old.board v × IsSeen old v row (seen.Estimate at) × (new ≡ old)
ReadStep old v row (Err NotRunning) new = ¬ IsRunning old.board v × (new ≡ old)
-- a read that is to be logged found no room
ReadStep old v row (Err OutOfMemory) new =
    IsRunning old.board v
    × ((seen : Seen) × (logged : Logged) × IsSeen old v row seen × (logged_of old.opening row seen ≡ Some logged))
    × (new ≡ old)
-- no other refusal is given
ReadStep old v row (Err OtherReads) new = ⊥
ReadStep old v row (Err Outdated) new = ⊥
ReadStep old v row (Err Exhausted) new = ⊥

-- the version is aborted before it finished
abbrev pub blocked : State → ℕ → Status → State
blocked s i is = record (with_slot s i empty_slot) { board = aborted_as s.board i is }

-- A version is aborted, since it met an ESTIMATE.
abbrev pub BlockStep : State → Version → ℕ → Result (Unit {0}) CoreFault → State → Type 0
BlockStep old v on (Ok _) new =
    IsRunning old.board v × ((mark old.board v.index).incarnation ≢ old.limits.incarnation)
    × ((IsWaitedFor old.board v.index on × (new ≡ blocked old v.index (status.Waiting on)))
    ⊎ (¬ IsWaitedFor old.board v.index on × (new ≡ blocked old v.index status.Ready)))
BlockStep old v on (Err NotRunning) new = ¬ IsRunning old.board v × (new ≡ old)
BlockStep old v on (Err Exhausted) new =
    IsRunning old.board v × ((mark old.board v.index).incarnation ≡ old.limits.incarnation) × (new ≡ old)
-- no other refusal is given
BlockStep old v on (Err OtherReads) new = ⊥
BlockStep old v on (Err Outdated) new = ⊥
BlockStep old v on (Err OutOfMemory) new = ⊥

-- the execution is of the version's message, and read nothing but what the version was answered
abbrev pub IsOfVersion : State → Version → Executed → Type 0
IsOfVersion s v execution =
    IsAt s.frames v.index execution.frame × AreLogged (slot s v.index).log execution.reads

-- the state after the version finished, with these entries and this board
abbrev pub with_execution : State → Version → Executed → Entries → Board → State
with_execution s v execution entries board =
    record (with_slot s v.index (record (slot s v.index) { reply = Some execution.reply })) { entries = entries; board = board }

-- A version hands in its execution.
abbrev pub FinishStep : State → Version → Executed → Result Bool CoreFault → State → Type 0
-- a new location lowers; without one the version may be handed out to be validated
FinishStep old v execution (Ok handed) new =
    IsRunning old.board v × IsOfVersion old v execution
    × ((entries : Entries) × AreReplaced v execution.writes old.entries entries
    × ((IsNewLocation old.entries v.index execution.writes × (old.board.epoch ≢ old.limits.epoch) × (handed ≡ false) × (new ≡ with_execution old v execution entries (lowered (finished old.board v.index) v.index)))
    ⊎ (¬ IsNewLocation old.entries v.index execution.writes × (new ≡ with_execution old v execution entries (finished old.board v.index)))))
FinishStep old v execution (Err NotRunning) new = ¬ IsRunning old.board v × (new ≡ old)
FinishStep old v execution (Err OtherReads) new = IsRunning old.board v × ¬ IsOfVersion old v execution × (new ≡ old)
FinishStep old v execution (Err Exhausted) new =
    IsRunning old.board v × IsOfVersion old v execution × IsNewLocation old.entries v.index execution.writes
    × (old.board.epoch ≡ old.limits.epoch) × (new ≡ old)
FinishStep old v execution (Err OutOfMemory) new =
    IsRunning old.board v × IsOfVersion old v execution
    × ¬ (IsNewLocation old.entries v.index execution.writes × (old.board.epoch ≡ old.limits.epoch)) × (new ≡ old)
-- no other refusal is given
FinishStep old v execution (Err Outdated) new = ⊥

-- the validation has gone over all reads, or has failed
abbrev pub is_at_end : Validation → Bool
is_at_end c = c.failed || nat_eq c.place c.reads

-- a validation of the version, which begins now
abbrev pub beginning : State → Version → Validation
beginning s v =
    record { version = v; began = s.board.epoch; place = 0; reads = length (slot s v.index).log; failed = false }

-- A seat begins to validate a version; its validation before is gone. Answered is whether the validation is at its end.
abbrev pub BeginStep : State → ℕ → Version → Result Bool CoreFault → State → Type 0
BeginStep old seat v (Ok ended) new =
    IsOpen old.board v × (ended ≡ is_at_end (beginning old v)) × (new ≡ with_validation old seat (Some (beginning old v)))
BeginStep old seat v (Err Outdated) new = ¬ IsOpen old.board v × (new ≡ old)
-- no other refusal is given
BeginStep old seat v (Err NotRunning) new = ⊥
BeginStep old seat v (Err OtherReads) new = ⊥
BeginStep old seat v (Err OutOfMemory) new = ⊥
BeginStep old seat v (Err Exhausted) new = ⊥

-- the seat has this validation, and whether it is at its end
abbrev pub HasValidation : State → ℕ → Validation → Bool → Type 0
HasValidation s seat c ended = (validation_of s seat ≡ Some c) × (is_at_end c ≡ ended)

-- the validation after one more read was found as logged
abbrev pub passed_one : Validation → Validation
passed_one c = record { version = c.version; began = c.began; place = c.place + 1; reads = c.reads; failed = c.failed }

-- the validation after a read was found otherwise
abbrev pub failed_one : Validation → Validation
failed_one c = record { version = c.version; began = c.began; place = c.place; reads = c.reads; failed = true }

-- the validation after its next read was resolved again
abbrev pub Validated : State → Validation → Validation → Type 0
Validated s c next =
    (read : RowKey × Logged) × IsAt (slot s c.version.index).log c.place read
    × ((ResolvesAs (shelf s) read.0 c.version.index read.1.origin × (next ≡ passed_one c))
    ⊎ (¬ ResolvesAs (shelf s) read.0 c.version.index read.1.origin × (next ≡ failed_one c)))

-- A seat resolves the next read of its validation again. Answered is whether the validation is at its end then.
abbrev pub ValidationStep : State → ℕ → Result Bool CoreFault → State → Type 0
ValidationStep old seat (Ok ended) new =
    (c : Validation) × (next : Validation) × HasValidation old seat c false × IsOpen old.board c.version × Validated old c next
    × (ended ≡ is_at_end next) × (new ≡ with_validation old seat (Some next))
ValidationStep old seat (Err NotRunning) new = ((c : Validation) → ¬ HasValidation old seat c false) × (new ≡ old)
ValidationStep old seat (Err Outdated) new =
    ((c : Validation) × HasValidation old seat c false × ¬ IsOpen old.board c.version) × (new ≡ old)
-- no other refusal is given
ValidationStep old seat (Err OtherReads) new = ⊥
ValidationStep old seat (Err OutOfMemory) new = ⊥
ValidationStep old seat (Err Exhausted) new = ⊥

-- the state after the execution of the message at i is aborted, with these entries
abbrev pub without_execution : State → ℕ → Entries → State
without_execution s i entries = record (with_slot s i empty_slot) { entries = entries; board = aborted s.board i }

-- a validation failed, and there is an incarnation and an epoch left
abbrev pub CanAbort : State → Validation → Type 0
CanAbort s c = ((mark s.board c.version.index).incarnation ≢ s.limits.incarnation) × (s.board.epoch ≢ s.limits.epoch)

-- A seat closes its validation. Answered is whether it passed; else the execution is aborted.
abbrev pub EndStep : State → ℕ → Result Bool CoreFault → State → Type 0
EndStep old seat (Ok true) new =
    (c : Validation) × HasValidation old seat c true × IsOpen old.board c.version × (c.failed ≡ false)
    × (new ≡ with_validation (record old { board = passed old.board c.version.index c.began }) seat None)
EndStep old seat (Ok false) new =
    (c : Validation) × HasValidation old seat c true × IsOpen old.board c.version × (c.failed ≡ true) × CanAbort old c
    × ((entries : Entries) × AreEstimated c.version.index old.entries entries
    × (new ≡ with_validation (without_execution old c.version.index entries) seat None))
EndStep old seat (Err NotRunning) new = ((c : Validation) → ¬ HasValidation old seat c true) × (new ≡ old)
EndStep old seat (Err Outdated) new =
    ((c : Validation) × HasValidation old seat c true × ¬ IsOpen old.board c.version) × (new ≡ old)
EndStep old seat (Err Exhausted) new =
    ((c : Validation) × HasValidation old seat c true × IsOpen old.board c.version × (c.failed ≡ true) × ¬ CanAbort old c) × (new ≡ old)
-- no other refusal is given
EndStep old seat (Err OtherReads) new = ⊥
EndStep old seat (Err OutOfMemory) new = ⊥

-- The next message in the order of the batch is to be committed. No row is read.
abbrev pub CommitStep : State → Bool → State → Type 0
CommitStep old true new =
    (old.board.committed < length old.frames) × IsFresh old.board old.board.committed
    × (new ≡ record old { board = committed_more old.board })
CommitStep old false new =
    ¬ ((old.board.committed < length old.frames) × IsFresh old.board old.board.committed) × (new ≡ old)
