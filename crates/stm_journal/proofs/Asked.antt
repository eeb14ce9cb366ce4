-- A call of the core is what its event asks, and which answers are entered.
use Rattle.std.proofs.Common.{◌≡◌, ℕ, Bool, true, false, List, ◌∷◌, [], ◌++◌, Option, Result, Ok, Err, inr, refl, sym, ap, ◌∙◌, subst}
use Rattle.stm_journal_text.proofs.Playing.{IsPlayed-push, stands_where_entered, same_where_not_entered}
use Rattle.issuer_words.specs.Words.{RowKey, RowVal}
use Rattle.stm_core_laws.specs.Play.{Play, PlayStep}
use Rattle.stm_journal_text.specs.Words.{Answers, CoreFault, IsPlayed, enters}
use Rattle.stm_journal_text.specs.declared.core_answer.CoreAnswer.{CoreAnswer}
use Rattle.stm_journal_text.specs.declared.entry.Entry.{Entry}
use Rattle.stm_journal_text.specs.declared.event.Event.{Event}
use Rattle.stm_journal_text.specs.declared.event.Event.TheVariants.{Read, BeginValidation, ValidateOne, EndValidation}
use Rattle.stm_memory.specs.declared.version.Version.{Version}
use Rattle.stm_core.specs.Unread.{got_of}
use Rattle.stm_core.specs.declared.unread.Unread.{Unread}
use Rattle.stm_core.specs.declared.unread.Unread.TheVariants as unread
use Rattle.stm_core_laws.specs.Run as call
use Rattle.stm_core_laws.specs.declared.core_fault.CoreFault.TheVariants.{NotRunning, OtherReads, OutOfMemory, Exhausted}
use Rattle.stm_journal.specs.Answered.{was_read, validated, ended}
use Rattle.stm_journal.specs.Finished.{IsFinished}
use Rattle.stm_journal.specs.SomePlay.{IsSomePlay}

-- an event that is answered so is entered, and the play goes on
pub played_on : (old : Play) (before after : List Entry) (seat : ℕ) (event : Event) (answer : CoreAnswer) (new : Play) → IsPlayed old before → Answers old seat event answer new → enters answer ≡ true → after ≡ before ++ record { seat = seat; event = event } ∷ [] → IsPlayed new after
played_on old before after seat event answer new played a enter are =
    subst (IsPlayed new) (sym are) (IsPlayed-push old before seat event answer new played a (stands_where_entered answer enter))

-- the same where room was made before
pub entered_last : (old : Play) (before mid after : List Entry) (seat : ℕ) (event : Event) (answer : CoreAnswer) (new : Play) → IsPlayed old before → Answers old seat event answer new → enters answer ≡ true → mid ≡ before → after ≡ mid ++ record { seat = seat; event = event } ∷ [] → IsPlayed new after
entered_last old before mid after seat event answer new played a enter room are =
    played_on old before after seat event answer new played a enter (are ∙ ap (λ (es : List Entry). es ++ record { seat = seat; event = event } ∷ []) room)

-- one that isn't entered leaves the play as it is
pub played_still : (old : Play) (before after : List Entry) (seat : ℕ) (event : Event) (answer : CoreAnswer) (new : Play) → IsPlayed old before → Answers old seat event answer new → enters answer ≡ false → after ≡ before → IsPlayed new after
played_still old before after seat event answer new played a enter are =
    subst (IsPlayed new) (sym are) (subst (λ (p : Play). IsPlayed p before) (sym (same_where_not_entered old seat event answer new a enter)) played)

-- whatever is answered, some entries play to the core after it
some_play_by : (old : Play) (seat : ℕ) (event : Event) (answer : CoreAnswer) (new : Play) (entering : Bool) → IsSomePlay old → Answers old seat event answer new → enters answer ≡ entering → IsSomePlay new
some_play_by old seat event answer new true some a enter =
    let after : List Entry = some.entries ++ record { seat = seat; event = event } ∷ [] in
    record { entries = after; played = played_on old some.entries after seat event answer new some.played a enter refl }
some_play_by old seat event answer new false some a enter =
    record { entries = some.entries; played = played_still old some.entries some.entries seat event answer new some.played a enter refl }

pub some_play_on : (old : Play) (seat : ℕ) (event : Event) (answer : CoreAnswer) (new : Play) → IsSomePlay old → Answers old seat event answer new → IsSomePlay new
some_play_on old seat event answer new some a = some_play_by old seat event answer new (enters answer) some a refl

-- a validation whose end is answered that no incarnation or epoch is left ends the journal
pub end_finished : (old new : Play) (before mid after : List Entry) (seat : ℕ) (answer : Result Bool CoreFault) → IsPlayed old before → Answers old seat EndValidation (ended answer) new → mid ≡ before → after ≡ mid ++ record { seat = seat; event = EndValidation } ∷ [] → answer ≡ Err Exhausted → IsFinished new after
unfolding IsFinished
end_finished old new before mid after seat answer played a room are is =
    inr (record {
      before = before;
      last = record { seat = seat; event = EndValidation };
      mid = old;
      are = are ∙ ap (λ (es : List Entry). es ++ record { seat = seat; event = EndValidation } ∷ []) room;
      played = played;
      exhausted = subst (λ (r : Result Bool CoreFault). Answers old seat EndValidation (ended r) new) is a;
    })

-- a read
pub read_asked : (old : Play) (seat : ℕ) (v : Version) (row : RowKey) (answer : Result (Unit {0}) Unread) (value : Option RowVal) (new : Play) → PlayStep old (call.Read v row (got_of answer value)) new → Answers old seat (Read v row) (was_read answer value) new
read_asked old seat v row (Ok u) value new step = step
read_asked old seat v row (Err (unread.Estimate at)) value new step = step
read_asked old seat v row (Err (unread.Refused fault)) value new step = step

-- a validation that begins
pub begin_asked : (old : Play) (seat : ℕ) (v : Version) (answer : Result Bool CoreFault) (new : Play) → PlayStep old (call.Begin seat v answer) new → Answers old seat (BeginValidation v) (validated answer) new
begin_asked old seat v (Ok is_ended) new step = step
begin_asked old seat v (Err fault) new step = step

pub begin_entered : (old : Play) (seat : ℕ) (v : Version) (answer : Result Bool CoreFault) (new : Play) → PlayStep old (call.Begin seat v answer) new → enters (validated answer) ≡ true
begin_entered old seat v (Err NotRunning) new step = absurd step.0.1
begin_entered old seat v (Err OtherReads) new step = absurd step.0.1
begin_entered old seat v (Err OutOfMemory) new step = absurd step.0.1
begin_entered old seat v (Err Exhausted) new step = absurd step.0.1
begin_entered old seat v answer new step = refl

-- a validation that goes on
pub validation_asked : (old : Play) (seat : ℕ) (answer : Result Bool CoreFault) (new : Play) → PlayStep old (call.ValidateOne seat answer) new → Answers old seat ValidateOne (validated answer) new
validation_asked old seat (Ok is_ended) new step = step
validation_asked old seat (Err fault) new step = step

pub validation_entered : (old : Play) (seat : ℕ) (answer : Result Bool CoreFault) (new : Play) → PlayStep old (call.ValidateOne seat answer) new → enters (validated answer) ≡ true
validation_entered old seat (Err OtherReads) new step = absurd step.0.1
validation_entered old seat (Err OutOfMemory) new step = absurd step.0.1
validation_entered old seat (Err Exhausted) new step = absurd step.0.1
validation_entered old seat answer new step = refl

-- the end of a validation
pub end_asked : (old : Play) (seat : ℕ) (answer : Result Bool CoreFault) (new : Play) → PlayStep old (call.End seat answer) new → Answers old seat EndValidation (ended answer) new
end_asked old seat (Ok has_passed) new step = step
end_asked old seat (Err fault) new step = step

pub end_entered : (old : Play) (seat : ℕ) (answer : Result Bool CoreFault) (new : Play) → PlayStep old (call.End seat answer) new → enters (ended answer) ≡ true
end_entered old seat (Err OtherReads) new step = absurd step.0.1
end_entered old seat (Err OutOfMemory) new step = absurd step.0.1
end_entered old seat answer new step = refl
