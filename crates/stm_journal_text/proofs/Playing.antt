-- A play goes on by the entry of each answer.
use Rattle.std.proofs.Common.{◌≡◌, ℕ, List, [], ◌∷◌, ◌++◌, refl, sym, ap, ◌∙◌, subst, ◌<◌, ◌+◌, length, take, drop, get_or, arith, true, false, Ok, Err}
use Rattle.std.proofs.lemmas.List.{take_more, at_drop_more, take-append-drop, length-take-le}
use Rattle.issuer_words.specs.Words.{Frame, Rows}
use Rattle.stm_core_laws.specs.Words.{Play, PlayStep, State, opening_play}
use Rattle.stm_journal_text.specs.Words.{Answers, EntryStep, IsFirstUnlogged, IsPlayed}
use Rattle.stm_journal_text.specs.Words.{IsUnloggedEvent, Plays, enters, stands}
use Rattle.stm_core_laws.specs.declared.limits.Limits.{Limits}
use Rattle.stm_journal_text.specs.declared.core_answer.CoreAnswer.{CoreAnswer}
use Rattle.stm_journal_text.specs.declared.entry.Entry.{Entry}
use Rattle.stm_journal_text.specs.declared.event.Event.{Event}
use Rattle.stm_journal_text.specs.declared.event.Event.TheVariants.{Claim, Read, Block, Finish, BeginValidation, ValidateOne, EndValidation, Commit}
use Rattle.stm_scheduler.specs.declared.task.Task.TheVariants.{Idle}
use Rattle.stm_core_laws.proofs.Reached.{IsOfSame, same-Step, bounded_again}
use Rattle.stm_core_laws.specs.Run as call
use Rattle.stm_core_laws.specs.declared.core_fault.CoreFault.TheVariants.{NotRunning, OtherReads, Outdated, OutOfMemory, Exhausted}
use Rattle.stm_journal_text.specs.declared.core_answer.CoreAnswer.TheVariants.{Claimed, Got, Blocked, Finished, Validating, Ended, Committed, Refused}
use Rattle.stm_journal_text.proofs.OneCall.{same_still}

-- whatever is answered, opening book, bodies and limits stay
pub same_answers : (old : Play) (seat : ℕ) (event : Event) (answer : CoreAnswer) (new : Play) → Answers old seat event answer new → IsOfSame old.state new.state
same_answers old seat Claim (Claimed task) new a = same-Step old.state (call.Claim task) new.state a.0
same_answers old seat (Read v row) (Got got) new a = same-Step old.state (call.Read v row (Ok got)) new.state a.0
same_answers old seat (Read v row) (Refused fault) new a = same-Step old.state (call.Read v row (Err fault)) new.state a.0
same_answers old seat (Block v on) Blocked new a = same-Step old.state (call.Block v on (Ok tt)) new.state a.0
same_answers old seat (Block v on) (Refused fault) new a = same-Step old.state (call.Block v on (Err fault)) new.state a.0
same_answers old seat (Finish v) (Finished handed) new a = same-Step old.state (call.Finish v a.0 (Ok handed)) new.state a.1.0
same_answers old seat (Finish v) (Refused NotRunning) new a =
    let same : new.state ≡ old.state = ap (λ (p : Play). p.state) a.1 in
    (ap (λ (s : State). s.opening) same, ap (λ (s : State). s.frames) same, ap (λ (s : State). s.limits) same)
same_answers old seat (Finish v) (Refused OtherReads) new a = same-Step old.state (call.Finish v a.0 (Err OtherReads)) new.state a.1.0
same_answers old seat (Finish v) (Refused OutOfMemory) new a = same-Step old.state (call.Finish v a.0 (Err OutOfMemory)) new.state a.1.0
same_answers old seat (Finish v) (Refused Exhausted) new a = same-Step old.state (call.Finish v a.0 (Err Exhausted)) new.state a.1.0
same_answers old seat (Finish v) (Refused Outdated) new a = absurd a.1.0.1
same_answers old seat (BeginValidation v) (Validating ended) new a = same-Step old.state (call.Begin seat v (Ok ended)) new.state a.0
same_answers old seat (BeginValidation v) (Refused fault) new a = same-Step old.state (call.Begin seat v (Err fault)) new.state a.0
same_answers old seat ValidateOne (Validating ended) new a = same-Step old.state (call.ValidateOne seat (Ok ended)) new.state a.0
same_answers old seat ValidateOne (Refused fault) new a = same-Step old.state (call.ValidateOne seat (Err fault)) new.state a.0
same_answers old seat EndValidation (Ended passed) new a = same-Step old.state (call.End seat (Ok passed)) new.state a.0
same_answers old seat EndValidation (Refused fault) new a = same-Step old.state (call.End seat (Err fault)) new.state a.0
same_answers old seat Commit (Committed done) new a = same-Step old.state (call.Commit done) new.state a.0
same_answers old seat event answer new a = absurd a

-- one more entry at the end of a play
pub Plays-push : (start : Play) (entries : List Entry) (mid : Play) (e : Entry) (new : Play) → Plays start entries mid → EntryStep mid e new → Plays start (entries ++ e ∷ []) new
Plays-push start [] mid e new plays step = (new, subst (λ (p : Play). EntryStep p e new) plays step, refl)
Plays-push start (first ∷ entries) mid e new plays step = (plays.0, plays.1, Plays-push plays.0 entries mid e new plays.2 step)

-- a core in its opening state is the play of nothing
pub IsPlayed-start : (opening : Rows) (frames : List Frame) (limits : Limits) (p : Play) → p ≡ opening_play opening frames limits → IsPlayed p []
unfolding IsPlayed
IsPlayed-start opening frames limits p is =
    subst (λ (q : Play). q ≡ opening_play q.state.opening q.state.frames q.state.limits) (sym is)
    (ap (λ (l : Limits). record (opening_play opening frames limits) { state = record (opening_play opening frames limits).state { limits = l } }) (sym (bounded_again limits)))

-- an answer that stands goes on with the play
pub IsPlayed-push : (old : Play) (entries : List Entry) (seat : ℕ) (event : Event) (answer : CoreAnswer) (new : Play) → IsPlayed old entries → Answers old seat event answer new → stands answer ≡ true → IsPlayed new (entries ++ record { seat = seat; event = event } ∷ [])
unfolding IsPlayed
IsPlayed-push old entries seat event answer new played a good =
    let same = same_answers old seat event answer new a in
    let e : Entry = record { seat = seat; event = event } in
    let plays : Plays (opening_play old.state.opening old.state.frames old.state.limits) (entries ++ e ∷ []) new =
    Plays-push (opening_play old.state.opening old.state.frames old.state.limits) entries old e new played (answer, good, a) in
    subst (λ (rows : Rows). Plays (opening_play rows new.state.frames new.state.limits) (entries ++ e ∷ []) new) (sym same.0)
    (subst (λ (frames : List Frame). Plays (opening_play old.state.opening frames new.state.limits) (entries ++ e ∷ []) new) (sym same.1)
    (subst (λ (limits : Limits). Plays (opening_play old.state.opening old.state.frames limits) (entries ++ e ∷ []) new) (sym same.2) plays))

-- what is entered stands
pub stands_where_entered : (answer : CoreAnswer) → enters answer ≡ true → stands answer ≡ true
stands_where_entered (Claimed Idle) e = absurd (cc e)
stands_where_entered (Refused fault) e = e
stands_where_entered answer e = refl

-- a claim that nothing is handed out for changes nothing
idle_same : (old new : Play) → PlayStep old (call.Claim Idle) new → new ≡ old
idle_same old new step = same_still old new step.0.1 (ap (λ (s : _). s.execution) step.1.2, ap (λ (s : _). s.validation) step.1.2)

-- what is not entered changes nothing
pub same_where_not_entered : (old : Play) (seat : ℕ) (event : Event) (answer : CoreAnswer) (new : Play) → Answers old seat event answer new → enters answer ≡ false → new ≡ old
same_where_not_entered old seat Claim (Claimed Idle) new a e = idle_same old new a
same_where_not_entered old seat (Read v row) (Refused OutOfMemory) new a e = same_still old new a.0.2 a.1
same_where_not_entered old seat (Finish v) (Refused OutOfMemory) new a e = same_still old new a.1.0.1.3 a.1.1
same_where_not_entered old seat (Finish v) (Refused OtherReads) new a e = same_still old new a.1.0.1.2 a.1.1
same_where_not_entered old seat event (Refused NotRunning) new a e = absurd (cc e)
-- any other is entered, or no answer
same_where_not_entered old seat event answer new a e = absurd (first_of (cc, assumption))

-- a step keeps the bodies
pub EntryStep-frames : (old : Play) (entry : Entry) (new : Play) → EntryStep old entry new → new.state.frames ≡ old.state.frames
EntryStep-frames old entry new step = (same_answers old entry.seat entry.event step.0 new step.2).1

-- one more entry of a list is played
pub Plays-more : (start : Play) (entries : List Entry) (i : ℕ) (e : Entry) (old new : Play) → i < length entries → e ≡ get_or entries i e → Plays start (take i entries) old → EntryStep old e new → Plays start (take (i + 1) entries) new
Plays-more start entries i e old new l is plays step =
    subst (λ (es : List Entry). Plays start es new) (sym (take_more entries i e l ∙ ap (λ (x : Entry). take i entries ++ x ∷ []) (sym is))) (Plays-push start (take i entries) old e new plays step)

-- entry i is the first that isn't decided
pub first_unlogged : (start : Play) (entries : List Entry) (i : ℕ) (e : Entry) (core : Play) → i < length entries → e ≡ get_or entries i e → Plays start (take i entries) core → IsUnloggedEvent core.state e.event → IsFirstUnlogged start entries (i + 1)
first_unlogged start entries i e core l is plays unlogged =
    record {
      before = take i entries;
      entry = e;
      after = drop (i + 1) entries;
      are = sym (ap (λ (x : Entry). take i entries ++ x ∷ drop (i + 1) entries) is ∙ (ap (λ (es : List Entry). take i entries ++ es) (sym (at_drop_more (λ es. es) entries i e l)) ∙ take-append-drop i entries));
      number = ap (λ (n : ℕ). n + 1) (sym (length-take-le i entries (omega (arith, l))));
      core = core;
      plays = plays;
      unlogged = unlogged;
    }
