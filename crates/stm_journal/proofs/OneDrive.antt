-- A list of turns makes one list of entries.
use Rattle.std.proofs.Common.{◌≡◌, ◌≢◌, ℕ, List, [], ◌∷◌, ◌++◌, Result, Ok, Err, Bool, true, inl, inr, refl, sym, ap, ◌∙◌, subst}
use Rattle.std.proofs.lemmas.Bool.{false≢true}
use Rattle.std.specs.List.{AllByRecursion}
use Rattle.std.specs.Prelude.{slice_set}
use Rattle.issuer_words.specs.Words.{Executed, Frame, RowKey, Writes, decision}
use Rattle.stm_memory.specs.Entries.{IsNewLocation}
use Rattle.stm_core_laws.specs.Words.{IsAt, Log, Play, PlayStep, State, Version, slot}
use Rattle.stm_journal_text.specs.Words.{Answers, CoreFault, IsLogged, entered, log_rows, stands}
use Rattle.stm_journal_text.specs.declared.core_answer.CoreAnswer.{CoreAnswer}
use Rattle.stm_journal_text.specs.declared.entry.Entry.{Entry}
use Rattle.stm_journal_text.specs.declared.event.Event.{Event}
use Rattle.stm_scheduler.specs.declared.task.Task.{Task}
use Rattle.stm_core_laws.proofs.Validations.{one_at}
use Rattle.stm_core_laws.specs.Run as call
use Rattle.stm_core_laws.specs.declared.core_fault.CoreFault.TheVariants.{NotRunning, OtherReads, Outdated, OutOfMemory, Exhausted}
use Rattle.stm_core_laws.specs.declared.got.Got as core_got
use Rattle.stm_journal_text.specs.declared.event.Event.TheVariants.{Claim, Read, Block, Finish, BeginValidation, ValidateOne, EndValidation, Commit}
use Rattle.stm_journal_text.proofs.Decided.{finish_or_exhausted, table_gives}
use Rattle.stm_journal_text.proofs.OneAnswer.{one_task, one_read, one_block, one_begin, one_validated, one_end, one_commit}
use Rattle.stm_journal_text.proofs.OneEntry.{had_room, one_play, room}
use Rattle.stm_journal_text.specs.declared.core_answer.CoreAnswer.TheVariants.{Claimed, Got, Blocked, Finished, Validating, Ended, Committed, Refused}
use Rattle.stm_journal.specs.Answered.{validated, ended}
use Rattle.stm_journal.specs.Drives.{Hands, IsDriven, hand}
use Rattle.stm_journal.specs.Turns.{Makes, then_holds, Acts, IsTurn, IsFirstUnlogged, needs_on}
use Rattle.stm_journal.specs.declared.holding.Holding.{Holding}
use Rattle.stm_journal.specs.declared.holding.Holding.TheVariants as holds

-- what a read and a version that is aborted are answered
abbrev got_answer : Result core_got.Got CoreFault → CoreAnswer
got_answer (Ok got) = Got got
got_answer (Err fault) = Refused fault

abbrev block_answer : Result (Unit {0}) CoreFault → CoreAnswer
block_answer (Ok u) = Blocked
block_answer (Err fault) = Refused fault

-- a version is handed out, or not, whichever execution of it finished
one_handed : (p : Play) (v : Version) (x y : Executed) (handed also : Bool) (t w : Play) → PlayStep p (call.Finish v x (Ok handed)) t → PlayStep p (call.Finish v y (Ok also)) w → handed ≡ also
one_handed p v x y handed also t w a b =
    let log = (slot p.state v.index).log in
    let frames : y.frame ≡ x.frame = one_at p.state.frames v.index y.frame x.frame b.0.1.1.0 a.0.1.1.0 in
    let writes : y.writes ≡ x.writes =
    sym (table_gives log y b.0.0 b.0.1.1.1).1 ∙ ap (λ (f : Frame). (decision (log_rows log) f).writes) frames ∙ (table_gives log x a.0.0 a.0.1.1.1).1 in
    elim a.0.1.2.2 [
      | inl located ↦ (a.1.1 located.0).0 ∙ sym (b.1.1 (subst (λ (ws : Writes). IsNewLocation p.state.entries v.index ws) (sym writes) located.0)).0
      | inr without ↦ (a.1.2 without.0).0 ∙ sym (b.1.2 (λ located. without.0 (subst (λ (ws : Writes). IsNewLocation p.state.entries v.index ws) writes located))).0
    ]

same_finish : (p : Play) (seat : ℕ) (v : Version) (answer other : CoreAnswer) (t w : Play) → stands answer ≡ true → stands other ≡ true → Answers p seat (Finish v) answer t → Answers p seat (Finish v) other w → answer ≡ other
same_finish p seat v (Refused OutOfMemory) other t w f g a b = absurd (false≢true f)
same_finish p seat v (Refused OtherReads) other t w f g a b = absurd (false≢true f)
same_finish p seat v (Refused Outdated) other t w f g a b = absurd a.1.0.1
same_finish p seat v answer (Refused OutOfMemory) t w f g a b = absurd (false≢true g)
same_finish p seat v answer (Refused OtherReads) t w f g a b = absurd (false≢true g)
same_finish p seat v answer (Refused Outdated) t w f g a b = absurd b.1.0.1
same_finish p seat v (Finished handed) (Finished also) t w f g a b = ap (λ (h : Bool). Finished h) (one_handed p v a.0 b.0 handed also t w a.1 b.1)
same_finish p seat v (Finished handed) (Refused Exhausted) t w f g a b = absurd (finish_or_exhausted p v a.0 b.0 handed t w a.1 b.1)
same_finish p seat v (Refused Exhausted) (Finished also) t w f g a b = absurd (finish_or_exhausted p v b.0 a.0 also w t b.1 a.1)
same_finish p seat v (Finished handed) (Refused NotRunning) t w f g a b = absurd (b.0 a.1.0.1.0)
same_finish p seat v (Refused NotRunning) (Finished also) t w f g a b = absurd (a.0 b.1.0.1.0)
same_finish p seat v (Refused Exhausted) (Refused NotRunning) t w f g a b = absurd (b.0 a.1.0.1.0)
same_finish p seat v (Refused NotRunning) (Refused Exhausted) t w f g a b = absurd (a.0 b.1.0.1.0)
same_finish p seat v (Refused NotRunning) (Refused NotRunning) t w f g a b = refl
same_finish p seat v (Refused Exhausted) (Refused Exhausted) t w f g a b = refl
same_finish p seat v (Finished handed) other t w f g a b = absurd b
same_finish p seat v (Refused NotRunning) other t w f g a b = absurd b
same_finish p seat v (Refused Exhausted) other t w f g a b = absurd b
same_finish p seat v answer other t w f g a b = absurd a

-- an event is answered one way
same_answer : (p : Play) (seat : ℕ) (event : Event) (answer other : CoreAnswer) (t w : Play) → stands answer ≡ true → stands other ≡ true → Answers p seat event answer t → Answers p seat event other w → answer ≡ other
same_answer p seat Claim (Claimed a) (Claimed b) t w f g x y = ap (λ (given : Task). Claimed given) (one_task p a b t w x.1 y.1)
same_answer p seat (Read v row) (Got a) (Got b) t w f g x y = ap got_answer (one_read p.state v row (Ok a) (Ok b) t.state w.state (had_room a _ refl) (had_room b _ refl) x.0 y.0)
same_answer p seat (Read v row) (Got a) (Refused b) t w f g x y = ap got_answer (one_read p.state v row (Ok a) (Err b) t.state w.state (had_room a _ refl) (room b _ refl g) x.0 y.0)
same_answer p seat (Read v row) (Refused a) (Got b) t w f g x y = ap got_answer (one_read p.state v row (Err a) (Ok b) t.state w.state (room a _ refl f) (had_room b _ refl) x.0 y.0)
same_answer p seat (Read v row) (Refused a) (Refused b) t w f g x y = ap got_answer (one_read p.state v row (Err a) (Err b) t.state w.state (room a _ refl f) (room b _ refl g) x.0 y.0)
same_answer p seat (Block v on) Blocked Blocked t w f g x y = refl
same_answer p seat (Block v on) Blocked (Refused b) t w f g x y = ap block_answer (one_block p.state v on (Ok tt) (Err b) t.state w.state x.0 y.0)
same_answer p seat (Block v on) (Refused a) Blocked t w f g x y = ap block_answer (one_block p.state v on (Err a) (Ok tt) t.state w.state x.0 y.0)
same_answer p seat (Block v on) (Refused a) (Refused b) t w f g x y = ap block_answer (one_block p.state v on (Err a) (Err b) t.state w.state x.0 y.0)
same_answer p seat (Finish v) answer other t w f g x y = same_finish p seat v answer other t w f g x y
same_answer p seat (BeginValidation v) (Validating a) (Validating b) t w f g x y = ap validated (one_begin p.state seat v (Ok a) (Ok b) t.state w.state x.0.1 y.0.1)
same_answer p seat (BeginValidation v) (Validating a) (Refused b) t w f g x y = ap validated (one_begin p.state seat v (Ok a) (Err b) t.state w.state x.0.1 y.0.1)
same_answer p seat (BeginValidation v) (Refused a) (Validating b) t w f g x y = ap validated (one_begin p.state seat v (Err a) (Ok b) t.state w.state x.0.1 y.0.1)
same_answer p seat (BeginValidation v) (Refused a) (Refused b) t w f g x y = ap validated (one_begin p.state seat v (Err a) (Err b) t.state w.state x.0.1 y.0.1)
same_answer p seat ValidateOne (Validating a) (Validating b) t w f g x y = ap validated (one_validated p.state seat (Ok a) (Ok b) t.state w.state x.0.1 y.0.1)
same_answer p seat ValidateOne (Validating a) (Refused b) t w f g x y = ap validated (one_validated p.state seat (Ok a) (Err b) t.state w.state x.0.1 y.0.1)
same_answer p seat ValidateOne (Refused a) (Validating b) t w f g x y = ap validated (one_validated p.state seat (Err a) (Ok b) t.state w.state x.0.1 y.0.1)
same_answer p seat ValidateOne (Refused a) (Refused b) t w f g x y = ap validated (one_validated p.state seat (Err a) (Err b) t.state w.state x.0.1 y.0.1)
same_answer p seat EndValidation (Ended a) (Ended b) t w f g x y = ap ended (one_end p.state seat (Ok a) (Ok b) t.state w.state x.0.1 y.0.1)
same_answer p seat EndValidation (Ended a) (Refused b) t w f g x y = ap ended (one_end p.state seat (Ok a) (Err b) t.state w.state x.0.1 y.0.1)
same_answer p seat EndValidation (Refused a) (Ended b) t w f g x y = ap ended (one_end p.state seat (Err a) (Ok b) t.state w.state x.0.1 y.0.1)
same_answer p seat EndValidation (Refused a) (Refused b) t w f g x y = ap ended (one_end p.state seat (Err a) (Err b) t.state w.state x.0.1 y.0.1)
same_answer p seat Commit (Committed a) (Committed b) t w f g x y = ap (λ (done : Bool). Committed done) (one_commit p.state a b t.state w.state x.0 y.0)
-- one of the two is no answer to this event
same_answer p seat event answer other t w f g x y = absurd assumption

same_head : (x y : RowKey) (xs ys : List RowKey) → x ∷ xs ≡ y ∷ ys → x ≡ y
same_head x y xs ys e = cc

same_tail : (x y : RowKey) (xs ys : List RowKey) → x ∷ xs ≡ y ∷ ys → xs ≡ ys
same_tail x y xs ys e = cc

-- of the rows there is one first that wasn't logged
one_first : (log : Log) (before others : List RowKey) (row other : RowKey) (after rest : List RowKey) → before ++ row ∷ after ≡ others ++ other ∷ rest → AllByRecursion (IsLogged log) before → ¬ IsLogged log row
    → AllByRecursion (IsLogged log) others → ¬ IsLogged log other → row ≡ other
one_first log [] [] row other after rest e logged un also no_other = same_head row other after rest e
one_first log [] (first ∷ others) row other after rest e logged un also no_other = absurd (un (subst (IsLogged log) (sym (same_head row first after (others ++ other ∷ rest) e)) also.0))
one_first log (first ∷ before) [] row other after rest e logged un also no_other = absurd (no_other (subst (IsLogged log) (same_head first other (before ++ row ∷ after) rest e) logged.0))
one_first log (first ∷ before) (second ∷ others) row other after rest e logged un also no_other =
    one_first log before others row other after rest (same_tail first second (before ++ row ∷ after) (others ++ other ∷ rest) e) logged.1 un also.1 no_other

-- where a row wasn't logged, not all were
not_all : (log : Log) (before : List RowKey) (row : RowKey) (after : List RowKey) → AllByRecursion (IsLogged log) (before ++ row ∷ after) → IsLogged log row
not_all log [] row after all = all.0
not_all log (first ∷ before) row after all = not_all log before row after all.1

-- a version reads one row
one_row : (s : State) (v : Version) (frame also : Frame) (row other : RowKey) → IsAt s.frames v.index frame → IsAt s.frames v.index also → IsFirstUnlogged (slot s v.index).log (needs_on (slot s v.index).log frame) row
    → IsFirstUnlogged (slot s v.index).log (needs_on (slot s v.index).log also) other → row ≡ other
one_row s v frame also row other at there first second =
    let log = (slot s v.index).log in
    let same : needs_on log frame ≡ needs_on log also = ap (needs_on log) (one_at s.frames v.index frame also at there) in
    one_first log first.0 second.0 row other first.1 second.1 (sym first.2 ∙ same ∙ second.2) first.3 first.4 second.3 second.4

-- it doesn't read a row and finish
reads_or_finishes : (s : State) (v : Version) (frame also : Frame) (row : RowKey) → IsAt s.frames v.index frame → IsAt s.frames v.index also → IsFirstUnlogged (slot s v.index).log (needs_on (slot s v.index).log frame) row
    → AllByRecursion (IsLogged (slot s v.index).log) (needs_on (slot s v.index).log also) → ⊥
reads_or_finishes s v frame also row at there first all =
    let log = (slot s v.index).log in
    let same : needs_on log also ≡ needs_on log frame = ap (needs_on log) (one_at s.frames v.index also frame there at) in
    first.4 (not_all log first.0 row first.1 (subst (AllByRecursion (IsLogged log)) (same ∙ first.2) all))

-- a seat that holds this makes one event
one_event : (s : State) (holding : Holding) (event other : Event) → Makes s holding event → Makes s holding other → event ≡ other
one_event s holds.Nothing Claim Claim a b = refl
one_event s (holds.Execution v) (Read u row) (Read w other) a b =
    ap (λ (x : Version). Read x row) (a.0 ∙ sym b.0) ∙ ap (λ (key : RowKey). Read w key) (one_row s v a.1.0 b.1.0 row other a.1.1 b.1.1 a.1.2 b.1.2)
one_event s (holds.Execution v) (Read u row) (Finish w) a b = absurd (reads_or_finishes s v a.1.0 b.1.0 row a.1.1 b.1.1 a.1.2 b.1.2)
one_event s (holds.Execution v) (Finish u) (Read w row) a b = absurd (reads_or_finishes s v b.1.0 a.1.0 row b.1.1 a.1.1 b.1.2 a.1.2)
one_event s (holds.Execution v) (Finish u) (Finish w) a b = ap (λ (x : Version). Finish x) (a.0 ∙ sym b.0)
one_event s (holds.Estimate v on) (Block u at) (Block w also) a b = ap (λ (x : Version). Block x at) (a.0 ∙ sym b.0) ∙ ap (λ (i : ℕ). Block w i) (a.1 ∙ sym b.1)
one_event s (holds.Validation v) (BeginValidation u) (BeginValidation w) a b = ap (λ (x : Version). BeginValidation x) (a ∙ sym b)
one_event s holds.Reads ValidateOne ValidateOne a b = refl
one_event s holds.Verdict EndValidation EndValidation a b = refl
one_event s holds.Commits Commit Commit a b = refl
-- it doesn't make one of the two
one_event s holding event other a b = absurd assumption

-- a seat that ended makes none
ended_makes : (s : State) (event : Event) → Makes s holds.Ended event → ⊥
ended_makes s event makes = absurd makes

no_event : (s : State) (holding : Holding) (event : Event) → holding ≡ holds.Ended → Makes s holding event → ⊥
no_event s holding event is makes = ended_makes s event (subst (λ (h : Holding). Makes s h event) is makes)

-- what both come to is the same
abbrev IsSame : List Entry → List Entry → Holding → Holding → Play → Play → Type 0
IsSame made others next also t w = (made ≡ others) × (next ≡ also) × (t ≡ w)

one_act : (p : Play) (seat : ℕ) (holding : Holding) (made others : List Entry) (next also : Holding) (t w : Play) → Acts p seat holding made next t → Acts p seat holding others also w → IsSame made others next also t w
one_act p seat holding made others next also t w a b =
    let event : a.event ≡ b.event = one_event p.state holding a.event b.event a.makes b.makes in
    let answered : Answers p seat a.event b.answer w = subst (λ (e : Event). Answers p seat e b.answer w) (sym event) b.answered in
    let answer : a.answer ≡ b.answer = same_answer p seat a.event a.answer b.answer t w a.stood b.stood a.answered answered in (
      a.enters ∙ ap (λ (e : Event). entered seat e a.answer) event ∙ ap (λ (x : CoreAnswer). entered seat b.event x) answer ∙ sym b.enters,
      a.held ∙ ap (λ (x : CoreAnswer). then_holds holding x) answer ∙ sym b.held,
      one_play p (record { seat = seat; event = a.event } ∷ []) t w (t, (a.answer, a.stood, a.answered), refl) (w, (b.answer, b.stood, answered), refl),
    )

-- a turn comes to one end
one_turn : (p : Play) (seat : ℕ) (holding : Holding) (made others : List Entry) (next also : Holding) (t w : Play) → IsTurn p seat holding made next t → IsTurn p seat holding others also w → IsSame made others next also t w
one_turn p seat holding made others next also t w x y =
    elim x [
      | inl a ↦ elim y [
        | inl b ↦ (a.1 ∙ sym b.1, a.2 ∙ sym b.2, a.3 ∙ sym b.3)
        | inr b ↦ absurd (no_event p.state holding b.event a.0 b.makes)
      ]
      | inr a ↦ elim y [
        | inl b ↦ absurd (no_event p.state holding a.event b.0 a.makes)
        | inr b ↦ one_act p seat holding made others next also t w a b
      ]
    ]

-- so do all of them
pub one_drive : (old : Play) (before : Hands) (turns : List ℕ) (entries others : List Entry) (t w : Play) (after last : Hands) → IsDriven old before turns entries t after → IsDriven old before turns others w last → (entries ≡ others) × (t ≡ w)
one_drive old before [] entries others t w after last x y = (x.0 ∙ sym y.0, x.1 ∙ sym y.1)
one_drive old before (seat ∷ turns) entries others t w after last x y =
    let turn = one_turn old seat (hand before seat) x.0 y.0 x.2 y.2 x.3 y.3 x.5 y.5 in
    let again : IsDriven x.3 (slice_set before seat x.2) turns y.1 w last =
    subst (λ (p : Play). IsDriven p (slice_set before seat x.2) turns y.1 w last) (sym turn.2)
    (subst (λ (h : Holding). IsDriven y.3 (slice_set before seat h) turns y.1 w last) (sym turn.1) y.6) in
    let rest = one_drive x.3 (slice_set before seat x.2) turns x.1 y.1 t w after last x.6 again in (
      x.4 ∙ ap (λ (es : List Entry). es ++ x.1) turn.0 ∙ ap (λ (es : List Entry). y.0 ++ es) rest.0 ∙ sym y.4,
      rest.1,
    )
