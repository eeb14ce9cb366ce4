-- What a running message logs is sound, and each way in which a message that is not executed changes keeps what holds.
use Rattle.std.proofs.Common.{◌≡◌, ◌≢◌, ℕ, ◌<◌, ◌≤◌, ◌+◌, [], ◌∷◌, ◌++◌, ◌⊎◌, inl, inr, length, Contains, refl, sym, ◌∙◌, subst, Some, arith}
use Rattle.std.proofs.lemmas.List.Elements.{Contains-push_cases}
use Rattle.std.proofs.lemmas.Option.{same_Some, none-some}
use Rattle.issuer_words.specs.Words.{RowKey, RowVal}
use Rattle.stm_memory.specs.Words.{Resolves, value_at}
use Rattle.stm_scheduler.specs.Board.{Board, IsRunning, claimed, mark, unstamped}
use Rattle.stm_core_laws.specs.Holds.{Holds, IsExecutedIn, IsKept, IsSoundRead}
use Rattle.stm_core_laws.specs.Log.{logged_of}
use Rattle.stm_core_laws.specs.State.{ExecutionSlot, MessageState, State, empty_slot, message, message_of, shelf, slot}
use Rattle.stm_core_laws.specs.declared.logged.Logged.{Logged}
use Rattle.stm_memory.specs.declared.seen.Seen.{Seen}
use Rattle.stm_memory.specs.declared.version.Version.{Version}
use Rattle.stm_scheduler.specs.declared.message_progress.MessageProgress.{MessageProgress}
use Rattle.stm_scheduler.specs.declared.status.Status.{Status}
use Rattle.stm_core_laws.proofs.Carries.{Moves-unfinished}
use Rattle.stm_core_laws.proofs.Changed.{Holds-mark, Holds-slot, Holds-both, of_other, in_batch, past_committed, ready_not_executed, running_not_executed, running_not_ready}
use Rattle.stm_core_laws.proofs.Members.{Contains-nil}
use Rattle.stm_core_laws.proofs.Shelves.{incarnation_of_value, value_put, value_not_estimate}
use Rattle.stm_core_laws.specs.Step.{with_read, blocked}
use Rattle.stm_memory.specs.declared.seen.Seen.TheVariants.{Base, Value, Estimate}
use Rattle.stm_scheduler.specs.declared.status.Status.TheVariants as status

-- executed or not
pub executed_cases : (is : Status) → (is ≡ status.Executed) ⊎ (is ≢ status.Executed)
executed_cases status.Ready = inr (λ e. cc)
executed_cases status.Running = inr (λ e. cc)
executed_cases status.Executed = inl refl
executed_cases (status.Waiting on) = inr (λ e. cc)

-- a value stands only where its message is executed, in its incarnation
pub value_is_executed : (s : State) → Holds s → (row : RowKey) (i incarnation : ℕ) (value : RowVal) → shelf s row i ≡ Some (value_at incarnation value) → IsExecutedIn (message s i) incarnation
value_is_executed s h row i incarnation value e =
    elim (executed_cases (message s i).status) [
      | inl is ↦ (is, incarnation_of_value (message s i).incarnation incarnation _ value (sym (((h.messages i).executed is).1.values row) ∙ e))
      | inr ne ↦ absurd (value_not_estimate value ((h.messages i).estimates ne row (value_at incarnation value) e))
    ]

-- what is seen is logged soundly
seen_is_sound : (s : State) → Holds s → (row : RowKey) (j : ℕ) (seen : Seen) (logged : Logged) → Resolves (shelf s) row j seen → logged_of s.opening row seen ≡ Some logged → IsSoundRead s (row, logged)
seen_is_sound s h row j Base logged resolves e =
    subst (λ (l : Logged). IsSoundRead s (row, l)) (same_Some _ _ e) (record { base = λ o. refl; was_finished = λ v o. absurd (none-some v o); stands = λ v value o. absurd (none-some v o) })
seen_is_sound s h row j (Value v value) logged resolves e =
    subst (λ (l : Logged). IsSoundRead s (row, l)) (same_Some _ _ e)
    (record {
      base = λ o. absurd (none-some v (sym o));
      was_finished = λ w o. inr (subst (λ (x : Version). IsExecutedIn (message s x.index) x.incarnation) (same_Some _ _ o) (value_is_executed s h row v.index v.incarnation value resolves.1));
      stands = λ w other o at. value_put v.incarnation v.incarnation (Some value) other (sym resolves.1 ∙ subst (λ (x : Version). shelf s row x.index ≡ Some (value_at x.incarnation other)) (sym (same_Some _ _ o)) at);
    })
seen_is_sound s h row j (Estimate at) logged resolves e = absurd (none-some logged e)

-- a message that was not executed and is not has its ESTIMATEs, and a sound log
kept-unfinished : (s : State) → Holds s → (i : ℕ) (m : MessageState) → (message s i).status ≢ status.Executed → m.status ≢ status.Executed → m.incarnation ≤ s.limits.incarnation → ((read : RowKey × Logged) → Contains m.log read → IsSoundRead s read) → IsKept s i m
kept-unfinished s h i m before now bound sound =
    record {
      incarnation = bound;
      sound = sound;
      executed = λ e. absurd (now e);
      estimates = λ ne. (h.messages i).estimates before;
      stamped = λ e. absurd (now e);
    }

-- a ready message is handed out
pub Holds-claimed : (s : State) → Holds s → (i : ℕ) → i < length s.board.marks → (mark s.board i).status ≡ status.Ready → Holds (record s { board = claimed s.board i })
Holds-claimed s h i l ready =
    let m : MessageProgress = record (mark s.board i) { status = status.Running } in
    let after : MessageState = message_of m (slot s i) in
    let before : (message s i).status ≢ status.Executed = of_other (message s i) status.Ready status.Executed ready ready_not_executed in
    Holds-mark s i m h l (past_committed s h i before)
    (Moves-unfinished (message s i) after before running_not_executed (omega arith))
    (kept-unfinished s h i after before running_not_executed (h.messages i).incarnation (h.messages i).sound)

-- a running message is in the batch
pub running_in_batch : (b : Board) (i : ℕ) → (mark b i).status ≡ status.Running → i < length b.marks
running_in_batch b i running = in_batch b i (λ ready. running_not_ready (sym running ∙ ready))

-- a running version logs what it sees
pub Holds-read : (s : State) → Holds s → (v : Version) (row : RowKey) (seen : Seen) (logged : Logged) → IsRunning s.board v → Resolves (shelf s) row v.index seen → logged_of s.opening row seen ≡ Some logged → Holds (with_read s v row logged)
Holds-read s h v row seen logged running resolves is =
    let i : ℕ = v.index in
    let kept : ExecutionSlot = record (slot s i) { log = (slot s i).log ++ (row, logged) ∷ [] } in
    let after : MessageState = message_of (mark s.board i) kept in
    let before : (message s i).status ≢ status.Executed = of_other (message s i) status.Running status.Executed running.0 running_not_executed in
    Holds-slot s i kept h (running_in_batch s.board i running.0) (past_committed s h i before)
    (Moves-unfinished (message s i) after before before (omega arith))
    (kept-unfinished s h i after before before (h.messages i).incarnation
    (λ other c. elim (Contains-push_cases (message s i).log (row, logged) other c) [
      | inl old ↦ (h.messages i).sound other old
      | inr new ↦ subst (IsSoundRead s) new (seen_is_sound s h row i seen logged resolves is)
    ]))

-- a running message is aborted
pub Holds-blocked : (s : State) → Holds s → (i : ℕ) (is : Status) → (mark s.board i).status ≡ status.Running → (mark s.board i).incarnation ≢ s.limits.incarnation → is ≢ status.Executed → Holds (blocked s i is)
Holds-blocked s h i is running ne now =
    let m : MessageProgress = unstamped is ((mark s.board i).incarnation + 1) in
    let after : MessageState = message_of m empty_slot in
    let before : (message s i).status ≢ status.Executed = of_other (message s i) status.Running status.Executed running running_not_executed in
    let bound = (h.messages i).incarnation in
    Holds-both s i m empty_slot h (running_in_batch s.board i running) (past_committed s h i before)
    (Moves-unfinished (message s i) after before now (omega arith))
    (kept-unfinished s h i after before now (omega arith) (λ read c. absurd (Contains-nil read c)))
