-- Every step keeps what holds, so it holds after every list of calls.
use Rattle.std.proofs.Common.{◌≡◌, ℕ, zero, suc, ◌<◌, ◌+◌, max, List, [], ◌∷◌, ◌++◌, inl, inr, length, take, get_or, map, replicate, refl, sym, ap, ◌∙◌, subst, Option, None, Result, Ok, Err, Bool, true, false, arith}
use Rattle.std.proofs.lemmas.Bool.{cases_lt}
use Rattle.std.proofs.lemmas.List.{length-map, get_or_past, get_or-replicate, length-replicate}
use Rattle.std.proofs.lemmas.Option.{none-some}
use Rattle.std.specs.FinMap as finite
use Rattle.issuer_words.specs.Words.{Executed, Frame, IsTrueExecution, RowKey, Rows}
use Rattle.stm_memory.specs.Entries.{place_cmp, place_of}
use Rattle.stm_scheduler.specs.Board.{floor, fresh_mark, mark, passed}
use Rattle.stm_core_laws.specs.Holds.{Holds, IsKept}
use Rattle.stm_core_laws.specs.State.{State, bounded, empty_slot, message_of, seats, slot, start}
use Rattle.stm_core_laws.specs.Step.{BeginStep, BlockStep, ClaimStep, CommitStep, EndStep, FinishStep, ReadStep, ValidationStep, without_execution}
use Rattle.stm_core_laws.specs.declared.core_fault.CoreFault.{CoreFault}
use Rattle.stm_core_laws.specs.declared.got.Got.{Got}
use Rattle.stm_core_laws.specs.declared.limits.Limits.{Limits}
use Rattle.stm_core_laws.specs.declared.validation.Validation.{Validation}
use Rattle.stm_memory.specs.declared.version.Version.{Version}
use Rattle.stm_scheduler.specs.declared.task.Task.{Task}
use Rattle.stm_core_laws.proofs.Changed.{Holds-validation, message_by, ready_not_executed, waiting_not_executed}
use Rattle.stm_core_laws.proofs.Validations.{Holds-begun, Holds-validated, Holds-passed}
use Rattle.stm_core_laws.proofs.Committed.{Holds-committed, Follows-settled, under_committed}
use Rattle.stm_core_laws.proofs.Finished.{Holds-finished, Holds-finished_new, Holds-aborted}
use Rattle.stm_core_laws.proofs.Logs.{Holds-claimed, Holds-read, Holds-blocked}
use Rattle.stm_core_laws.proofs.Members.{Contains-nil}
use Rattle.stm_core_laws.proofs.Overlay.{replies-Follows}
use Rattle.stm_core_laws.specs.Run.{Call, Claim, Read, Block, Finish, Begin, ValidateOne, End, Commit, Step, Run, IsReached, RepliesAreTheFold, RowsAreTheFold}
use Rattle.stm_core_laws.specs.declared.core_fault.CoreFault.TheVariants.{NotRunning, OtherReads, Outdated, OutOfMemory, Exhausted}
use Rattle.stm_core_laws.specs.declared.got.Got.TheVariants as got
use Rattle.stm_scheduler.specs.declared.status.Status.TheVariants as status
use Rattle.stm_scheduler.specs.declared.task.Task.TheVariants.{Execute, Validate, Idle, Done}

-- every answer to asking for a task
Holds-ClaimStep : (old : State) (task : Task) (new : State) → ClaimStep old task new → Holds old → Holds new
Holds-ClaimStep old Done new step h = subst Holds (sym step.1) h
Holds-ClaimStep old (Execute v) new step h = subst Holds (sym step.3) (Holds-claimed old h v.index step.1.0 step.1.1)
Holds-ClaimStep old (Validate v) new step h = subst Holds (sym step.2) h
Holds-ClaimStep old Idle new step h = subst Holds (sym step.1) h

-- every answer to a read
Holds-ReadStep : (old : State) (v : Version) (row : RowKey) (answer : Result Got CoreFault) (new : State) → ReadStep old v row answer new → Holds old → Holds new
Holds-ReadStep old v row (Ok (got.Row value)) new step h =
    elim step.1 [
      | inl again ↦ subst Holds (sym again.1) h
      | inr first ↦ subst Holds (sym first.5) (Holds-read old h v row first.0 first.1 step.0 first.2.1 first.3)
    ]
Holds-ReadStep old v row (Ok (got.Estimate at)) new step h = subst Holds (sym step.2) h
Holds-ReadStep old v row (Err NotRunning) new step h = subst Holds (sym step.1) h
Holds-ReadStep old v row (Err OutOfMemory) new step h = subst Holds (sym step.2) h
Holds-ReadStep old v row answer new step h = absurd step

-- every answer to a block
Holds-BlockStep : (old : State) (v : Version) (on : ℕ) (answer : Result (Unit {0}) CoreFault) (new : State) → BlockStep old v on answer new → Holds old → Holds new
Holds-BlockStep old v on (Ok u) new step h =
    elim step.2 [
      | inl waits ↦ subst Holds (sym waits.1) (Holds-blocked old h v.index (status.Waiting on) step.0.0 step.1 (waiting_not_executed on))
      | inr goes ↦ subst Holds (sym goes.1) (Holds-blocked old h v.index status.Ready step.0.0 step.1 ready_not_executed)
    ]
Holds-BlockStep old v on (Err NotRunning) new step h = subst Holds (sym step.1) h
Holds-BlockStep old v on (Err Exhausted) new step h = subst Holds (sym step.2) h
Holds-BlockStep old v on answer new step h = absurd step

-- every answer to handing in an execution
Holds-FinishStep : (old : State) (v : Version) (x : Executed) (answer : Result Bool CoreFault) (new : State) → IsTrueExecution x → FinishStep old v x answer new → Holds old → Holds new
Holds-FinishStep old v x (Ok handed) new true_one step h =
    let entries = step.2.0 in
    elim step.2.2 [
      | inl located ↦ subst Holds (sym located.3) (Holds-finished_new old h v x entries true_one step.0 step.1 step.2.1 located.1)
      | inr without ↦ subst Holds (sym without.1) (Holds-finished old h v x entries true_one step.0 step.1 step.2.1 without.0)
    ]
Holds-FinishStep old v x (Err NotRunning) new true_one step h = subst Holds (sym step.1) h
Holds-FinishStep old v x (Err OtherReads) new true_one step h = subst Holds (sym step.2) h
Holds-FinishStep old v x (Err Exhausted) new true_one step h = subst Holds (sym step.4) h
Holds-FinishStep old v x (Err OutOfMemory) new true_one step h = subst Holds (sym step.3) h
Holds-FinishStep old v x (Err Outdated) new true_one step h = absurd step

-- every answer to beginning a validation
Holds-BeginStep : (old : State) (seat : ℕ) (v : Version) (answer : Result Bool CoreFault) (new : State) → seat < seats → BeginStep old seat v answer new → Holds old → Holds new
Holds-BeginStep old seat v (Ok ended) new l step h = subst Holds (sym step.2) (Holds-begun old h seat v l step.0)
Holds-BeginStep old seat v (Err Outdated) new l step h = subst Holds (sym step.1) h
Holds-BeginStep old seat v answer new l step h = absurd step

-- every answer to one read of a validation
Holds-ValidationStep : (old : State) (seat : ℕ) (answer : Result Bool CoreFault) (new : State) → seat < seats → ValidationStep old seat answer new → Holds old → Holds new
Holds-ValidationStep old seat (Ok ended) new l step h = subst Holds (sym step.6) (Holds-validated old h seat step.0 step.1 l step.2 step.3 step.4)
Holds-ValidationStep old seat (Err NotRunning) new l step h = subst Holds (sym step.1) h
Holds-ValidationStep old seat (Err Outdated) new l step h = subst Holds (sym step.1) h
Holds-ValidationStep old seat answer new l step h = absurd step

-- every answer to the end of a validation
Holds-EndStep : (old : State) (seat : ℕ) (answer : Result Bool CoreFault) (new : State) → seat < seats → EndStep old seat answer new → Holds old → Holds new
Holds-EndStep old seat (Ok true) new l step h =
    let c : Validation = step.0 in
    subst Holds (sym step.4)
    (Holds-validation (record old { board = passed old.board c.version.index c.began }) seat None (Holds-passed old h c (h.validations seat c step.1.0) step.1.1 step.3 step.2) l (λ c e. absurd (none-some c e)))
Holds-EndStep old seat (Ok false) new l step h =
    let c : Validation = step.0 in
    let entries = step.5.0 in
    subst Holds (sym step.5.2)
    (Holds-validation (without_execution old c.version.index entries) seat None (Holds-aborted old h c entries step.2 step.4 step.5.1) l (λ c e. absurd (none-some c e)))
Holds-EndStep old seat (Err NotRunning) new l step h = subst Holds (sym step.1) h
Holds-EndStep old seat (Err Outdated) new l step h = subst Holds (sym step.1) h
Holds-EndStep old seat (Err Exhausted) new l step h = subst Holds (sym step.1) h
Holds-EndStep old seat answer new l step h = absurd step

-- every answer to a commit
Holds-CommitStep : (old : State) (answer : Bool) (new : State) → CommitStep old answer new → Holds old → Holds new
Holds-CommitStep old true new step h = subst Holds (sym step.2) (Holds-committed old h step.0 step.1)
Holds-CommitStep old false new step h = subst Holds (sym step.1) h

-- each call keeps what holds
pub Holds-Step : (old : State) (call : Call) (new : State) → Step old call new → Holds old → Holds new
Holds-Step old (Claim task) new step h = Holds-ClaimStep old task new step h
Holds-Step old (Read v row answer) new step h = Holds-ReadStep old v row answer new step h
Holds-Step old (Block v on answer) new step h = Holds-BlockStep old v on answer new step h
Holds-Step old (Finish v x answer) new step h = Holds-FinishStep old v x answer new step.0 step.1 h
Holds-Step old (Begin seat v answer) new step h = Holds-BeginStep old seat v answer new step.0 step.1 h
Holds-Step old (ValidateOne seat answer) new step h = Holds-ValidationStep old seat answer new step.0 step.1 h
Holds-Step old (End seat answer) new step h = Holds-EndStep old seat answer new step.0 step.1 h
Holds-Step old (Commit answer) new step h = Holds-CommitStep old answer new step h

-- of empty slots each is empty, and past the end too
all_empty : (frames : List Frame) (i : ℕ) → get_or (map (λ _. empty_slot) frames) i empty_slot ≡ empty_slot
all_empty [] i = refl
all_empty (frame ∷ frames) zero = refl
all_empty (frame ∷ frames) (suc i) = all_empty frames i

-- a list of one thing, read at that thing as the default
all_same : {X : Type 0} (n k : ℕ) (x : X) → get_or (replicate n x) k x ≡ x
all_same n k x =
    elim (cases_lt k n) [
      | inl l ↦ get_or-replicate n k x x l
      | inr past ↦ get_or_past (replicate n x) k x (let e = length-replicate n x in omega arith)
    ]

-- a fresh message is kept where nothing stands
fresh-kept : (opening : Rows) (frames : List Frame) (limits : Limits) (i : ℕ) → IsKept (start opening frames limits) i (message_of fresh_mark empty_slot)
fresh-kept opening frames limits i =
    record {
      incarnation = omega arith;
      sound = λ read c. absurd (Contains-nil read c);
      executed = λ e. absurd (ready_not_executed e);
      estimates = λ ne row x e. absurd (none-some x (sym (finite.get-empty place_cmp (place_of row i)) ∙ e));
      stamped = λ e. absurd (ready_not_executed e);
    }

-- the opening state has nothing written, nothing logged and nothing committed
pub Holds-start : (opening : Rows) (frames : List Frame) (limits : Limits) → Holds (start opening frames limits)
Holds-start opening frames limits =
    let s : State = start opening frames limits in
    record {
      paired = length-replicate (length frames) fresh_mark;
      slotted = length-map frames (λ _. empty_slot);
      floored = length-replicate (length frames + 1) 0;
      seated = length-replicate {A = Option Validation} seats None;
      within = omega arith;
      epoch = omega arith;
      floors = λ t. let e : floor s.board t ≡ 0 = all_same (length frames + 1) t 0 in omega arith;
      messages = λ i. subst (IsKept s i) (sym (message_by (mark s.board i) fresh_mark (slot s i) empty_slot (all_same (length frames) i fresh_mark) (all_empty frames i))) (fresh-kept opening frames limits i);
      validations = λ seat c e. absurd (none-some c (sym (all_same seats seat None) ∙ e));
      settled = λ i l. absurd (omega (arith, l));
    }

-- opening book, frames and limits stay
abbrev pub IsOfSame : State → State → Type 0
IsOfSame old new = (new.opening ≡ old.opening) × (new.frames ≡ old.frames) × (new.limits ≡ old.limits)

-- a state that is equal to one of the same book, frames and limits has them too
same_from : (old new was : State) → new ≡ was → IsOfSame old was → IsOfSame old new
same_from old new was e h = subst (IsOfSame old) (sym e) h

-- nothing is changed
stays : (old new : State) → new ≡ old → IsOfSame old new
stays old new e = same_from old new old e (refl, refl, refl)

same-ClaimStep : (old : State) (task : Task) (new : State) → ClaimStep old task new → IsOfSame old new
same-ClaimStep old Done new step = stays old new step.1
same-ClaimStep old (Execute v) new step = same_from old new _ step.3 (refl, refl, refl)
same-ClaimStep old (Validate v) new step = stays old new step.2
same-ClaimStep old Idle new step = stays old new step.1

same-ReadStep : (old : State) (v : Version) (row : RowKey) (answer : Result Got CoreFault) (new : State) → ReadStep old v row answer new → IsOfSame old new
same-ReadStep old v row (Ok (got.Row value)) new step =
    elim step.1 [ inl again ↦ stays old new again.1 | inr first ↦ same_from old new _ first.5 (refl, refl, refl) ]
same-ReadStep old v row (Ok (got.Estimate at)) new step = stays old new step.2
same-ReadStep old v row (Err NotRunning) new step = stays old new step.1
same-ReadStep old v row (Err OutOfMemory) new step = stays old new step.2
same-ReadStep old v row answer new step = absurd step

same-BlockStep : (old : State) (v : Version) (on : ℕ) (answer : Result (Unit {0}) CoreFault) (new : State) → BlockStep old v on answer new → IsOfSame old new
same-BlockStep old v on (Ok u) new step =
    elim step.2 [ inl waits ↦ same_from old new _ waits.1 (refl, refl, refl) | inr goes ↦ same_from old new _ goes.1 (refl, refl, refl) ]
same-BlockStep old v on (Err NotRunning) new step = stays old new step.1
same-BlockStep old v on (Err Exhausted) new step = stays old new step.2
same-BlockStep old v on answer new step = absurd step

same-FinishStep : (old : State) (v : Version) (x : Executed) (answer : Result Bool CoreFault) (new : State) → FinishStep old v x answer new → IsOfSame old new
same-FinishStep old v x (Ok handed) new step =
    elim step.2.2 [ inl located ↦ same_from old new _ located.3 (refl, refl, refl) | inr without ↦ same_from old new _ without.1 (refl, refl, refl) ]
same-FinishStep old v x (Err NotRunning) new step = stays old new step.1
same-FinishStep old v x (Err OtherReads) new step = stays old new step.2
same-FinishStep old v x (Err Exhausted) new step = stays old new step.4
same-FinishStep old v x (Err OutOfMemory) new step = stays old new step.3
same-FinishStep old v x (Err Outdated) new step = absurd step

same-BeginStep : (old : State) (seat : ℕ) (v : Version) (answer : Result Bool CoreFault) (new : State) → BeginStep old seat v answer new → IsOfSame old new
same-BeginStep old seat v (Ok ended) new step = same_from old new _ step.2 (refl, refl, refl)
same-BeginStep old seat v (Err Outdated) new step = stays old new step.1
same-BeginStep old seat v answer new step = absurd step

same-ValidationStep : (old : State) (seat : ℕ) (answer : Result Bool CoreFault) (new : State) → ValidationStep old seat answer new → IsOfSame old new
same-ValidationStep old seat (Ok ended) new step = same_from old new _ step.6 (refl, refl, refl)
same-ValidationStep old seat (Err NotRunning) new step = stays old new step.1
same-ValidationStep old seat (Err Outdated) new step = stays old new step.1
same-ValidationStep old seat answer new step = absurd step

same-EndStep : (old : State) (seat : ℕ) (answer : Result Bool CoreFault) (new : State) → EndStep old seat answer new → IsOfSame old new
same-EndStep old seat (Ok true) new step = same_from old new _ step.4 (refl, refl, refl)
same-EndStep old seat (Ok false) new step = same_from old new _ step.5.2 (refl, refl, refl)
same-EndStep old seat (Err NotRunning) new step = stays old new step.1
same-EndStep old seat (Err Outdated) new step = stays old new step.1
same-EndStep old seat (Err Exhausted) new step = stays old new step.1
same-EndStep old seat answer new step = absurd step

same-CommitStep : (old : State) (answer : Bool) (new : State) → CommitStep old answer new → IsOfSame old new
same-CommitStep old true new step = same_from old new _ step.2 (refl, refl, refl)
same-CommitStep old false new step = stays old new step.1

-- one call
pub same-Step : (old : State) (call : Call) (new : State) → Step old call new → IsOfSame old new
same-Step old (Claim task) new step = same-ClaimStep old task new step
same-Step old (Read v row answer) new step = same-ReadStep old v row answer new step
same-Step old (Block v on answer) new step = same-BlockStep old v on answer new step
same-Step old (Finish v x answer) new step = same-FinishStep old v x answer new step.1
same-Step old (Begin seat v answer) new step = same-BeginStep old seat v answer new step.1
same-Step old (ValidateOne seat answer) new step = same-ValidationStep old seat answer new step.1
same-Step old (End seat answer) new step = same-EndStep old seat answer new step.1
same-Step old (Commit answer) new step = same-CommitStep old answer new step

-- a list of calls
same-Run : (old : State) (calls : List Call) (new : State) → Run old calls new → IsOfSame old new
same-Run old [] new run = stays old new run
same-Run old (call ∷ calls) new run =
    let first = same-Step old call run.0 run.1 in
    let rest = same-Run run.0 calls new run.2 in
    (rest.0 ∙ first.0, rest.1 ∙ first.1, rest.2 ∙ first.2)

-- a list of calls keeps what holds
Holds-Run : (old : State) (calls : List Call) (new : State) → Run old calls new → Holds old → Holds new
Holds-Run old [] new run h = subst Holds (sym run) h
Holds-Run old (call ∷ calls) new run h = Holds-Run run.0 calls new run.2 (Holds-Step old call run.0 run.1 h)

-- one more call at the end of a run
Run-push : (old : State) (calls : List Call) (mid : State) (call : Call) (new : State) → Run old calls mid → Step mid call new → Run old (calls ++ call ∷ []) new
Run-push old [] mid call new run step = (new, subst (λ (s : State). Step s call new) run step, refl)
Run-push old (first ∷ calls) mid call new run step = (run.0, run.1, Run-push run.0 calls mid call new run.2 step)

-- limits that are bounded are so
pub bounded_again : (limits : Limits) → bounded (bounded limits) ≡ bounded limits
bounded_again limits =
    let e : max 1 (max 1 limits.epoch) ≡ max 1 limits.epoch = omega arith in
    ap (λ (epoch : ℕ). record limits { epoch = epoch }) e

-- a run from the opening state of other limits, whose bounds are the same
run_bounded : (opening : Rows) (frames : List Frame) (limits : Limits) (calls : List Call) (s : State) → Run (start opening frames limits) calls s → Run (start opening frames (bounded limits)) calls s
run_bounded opening frames limits calls s run =
    subst (λ (l : Limits). Run (record (start opening frames limits) { limits = l }) calls s) (sym (bounded_again limits)) run

-- a run from an opening state leads to a state that is reached
pub reached_by : (opening : Rows) (frames : List Frame) (limits : Limits) (calls : List Call) (s : State) → Run (start opening frames limits) calls s → IsReached s
unfolding IsReached
reached_by opening frames limits calls s run =
    let same = same-Run (start opening frames limits) calls s run in (
      calls,
      subst (λ (rows : Rows). Run (start rows s.frames s.limits) calls s) (sym same.0)
          (subst (λ (fs : List Frame). Run (start opening fs s.limits) calls s) (sym same.1)
          (subst (λ (l : Limits). Run (start opening frames l) calls s) (sym same.2) (run_bounded opening frames limits calls s run))),
    )

-- the opening state is reached
pub IsReached-start : (opening : Rows) (frames : List Frame) (limits : Limits) → IsReached (start opening frames limits)
IsReached-start opening frames limits = reached_by opening frames limits [] (start opening frames limits) refl

-- the state after a call on one that is reached is reached
pub IsReached-Step : (old : State) (call : Call) (new : State) → IsReached old → Step old call new → IsReached new
unfolding IsReached
IsReached-Step old call new reached step =
    let run : Run (start old.opening old.frames old.limits) (reached.0 ++ call ∷ []) new = Run-push (start old.opening old.frames old.limits) reached.0 old call new reached.1 step in
    reached_by old.opening old.frames old.limits (reached.0 ++ call ∷ []) new run

-- what holds of every state that is reached
pub Holds-reached : (s : State) → IsReached s → Holds s
unfolding IsReached
Holds-reached s reached = Holds-Run (start s.opening s.frames s.limits) reached.0 s reached.1 (Holds-start s.opening s.frames s.limits)

-- what is committed in a state of a run is the fold
pub replies-reached : (s : State) → IsReached s → RepliesAreTheFold s.opening s.frames s
replies-reached s reached = replies-Follows s.opening (take s.board.committed s.slots) (take s.board.committed s.frames) (Follows-settled s (Holds-reached s reached))

-- the opening book under what is committed in a state of a run is the fold
pub rows-reached : (s : State) → IsReached s → RowsAreTheFold s.opening s.frames s
rows-reached s reached = under_committed s (Holds-reached s reached)

-- what holds of every state that is reached, with its book and frames, holds after every run, with those that the run began with
of_run : (P : Rows → List Frame → State → Type 0) → ((s : State) → IsReached s → P s.opening s.frames s) → (opening : Rows) (frames : List Frame) (limits : Limits) (calls : List Call) (s : State) → Run (start opening frames limits) calls s → P opening frames s
of_run P each opening frames limits calls s run =
    let same = same-Run (start opening frames limits) calls s run in
    subst (λ (rows : Rows). P rows frames s) same.0 (subst (λ (fs : List Frame). P s.opening fs s) same.1 (each s (reached_by opening frames limits calls s run)))

-- every run commits the fold's replies
pub replies-Run : (opening : Rows) (frames : List Frame) (limits : Limits) (calls : List Call) (s : State) → Run (start opening frames limits) calls s → RepliesAreTheFold opening frames s
replies-Run = of_run RepliesAreTheFold replies-reached

-- every run commits the fold's rows
pub rows-Run : (opening : Rows) (frames : List Frame) (limits : Limits) (calls : List Call) (s : State) → Run (start opening frames limits) calls s → RowsAreTheFold opening frames s
rows-Run = of_run RowsAreTheFold rows-reached
