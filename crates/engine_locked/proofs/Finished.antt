-- When a worker is at the end, and what the journal then plays to.
use Rattle.std.proofs.Common.{◌≡◌, ℕ, List, ◌++◌, inl, inr, length, take, drop, sym, ap, ◌∙◌, subst, Result, Ok, Err, IfOk}
use Rattle.issuer_fold.specs.declared.run_outcome.RunOutcome.{RunOutcome}
use Rattle.stm_journal.specs.Finished.{IsFinished}
use Rattle.stm_journal.specs.SomePlay.{IsSomePlay}
use Rattle.issuer_words.specs.Words.{Executed, Frame, ReplyBody, Rows, replies_to, rows_after}
use Rattle.stm_core_laws.specs.Words.{IsReached, Play, State, bounded, opening_play}
use Rattle.stm_journal_text.specs.Words.{AnswersTo, FinishAnswersTo, IsPlayed, Limits, Plays}
use Rattle.stm_journal_text.specs.Words.{entered}
use Rattle.stm_journal_text.specs.declared.entry.Entry.{Entry}
use Rattle.stm_journal_text.specs.declared.event.Event.{Event}
use Rattle.stm_journal_text.specs.declared.core_answer.CoreAnswer.TheVariants.{Claimed, Refused}
use Rattle.stm_journal_text.specs.declared.event.Event.TheVariants.{Claim, Finish}
use Rattle.stm_memory.specs.declared.version.Version.{Version}
use Rattle.stm_scheduler.specs.declared.task.Task.TheVariants.{Done}
use Rattle.stm_core_laws.proofs.Reached.{replies-reached, bounded_again}
use Rattle.stm_core_laws.specs.declared.core_fault.CoreFault.TheVariants.{Exhausted}
use Rattle.issuer_fold.proofs.FoldLaws.{replies_of_both}
use Rattle.engine_locked.specs.Journals.{IsCoreOf, IsJournalOf, AreCommitted, AreJournals, IsSomeEnd}

-- where nothing is to be done any more, all is committed
pub done_finished : (old new : Play) (seat : ℕ) (entries : List Entry) → AnswersTo old seat Claim (Claimed Done) new → IsFinished new entries
unfolding IsFinished
done_finished old new seat entries step =
    elim step [
      | inl done ↦ inl (subst (λ (s : State). s.board.committed ≡ length s.frames) (sym done.0.1) done.0.0)
      | inr full ↦ absurd (cc full.0)
    ]

-- where no incarnation or epoch is left
pub exhausted_finished : (old new : Play) (before after : List Entry) (seat : ℕ) (event : Event) → IsPlayed old before → AnswersTo old seat event (Refused Exhausted) new → after ≡ before ++ entered seat event (Refused Exhausted) → IsFinished new after
unfolding IsFinished
exhausted_finished old new before after seat event played step are =
    elim step [
      | inl exhausted ↦ inr (record { before = before; last = record { seat = seat; event = event }; mid = old; are = are; played = played; exhausted = exhausted })
      | inr full ↦ absurd (cc full.0)
    ]

-- the same of a finish
pub exhausted_finish : (old new : Play) (before after : List Entry) (seat : ℕ) (v : Version) (x : Executed) → IsPlayed old before → FinishAnswersTo old v x (Refused Exhausted) new → after ≡ before ++ entered seat (Finish v) (Refused Exhausted) → IsFinished new after
unfolding IsFinished
exhausted_finish old new before after seat v x played step are =
    elim step [
      | inl exhausted ↦ inr (record { before = before; last = record { seat = seat; event = Finish v }; mid = old; are = are; played = played; exhausted = (x, exhausted) })
      | inr full ↦ absurd (cc full.0)
    ]

pub finished_all : (core : Play) (entries : List Entry) → core.state.board.committed ≡ length core.state.frames → IsFinished core entries
unfolding IsFinished
finished_all core entries all = inl all

-- where some entries play to a core that has committed all, they play to its end
pub some_end : (core : Play) → IsSomePlay core → core.state.board.committed ≡ length core.state.frames → IsSomeEnd core
some_end core some all = record { entries = some.entries; played = some.played; finished = finished_all core some.entries all }

-- limits that are bounded open as they do
opened_bounded : (opening : Rows) (frames : List Frame) (limits : Limits) → opening_play opening frames (bounded limits) ≡ opening_play opening frames limits
opened_bounded opening frames limits =
    ap (λ (l : Limits). record (opening_play opening frames limits) { state = record (opening_play opening frames limits).state { limits = l } }) (bounded_again limits)

-- what a run hands out is a journal of it
pub journal_of : (core : Play) (entries : List Entry) (opening : Rows) (frames : List Frame) (limits : Limits) (committed : ℕ) (replies : List ReplyBody) → IsPlayed core entries → IsReached core.state
    → IsCoreOf opening frames limits core → core.state.board.committed ≡ committed → replies ≡ replies_to opening frames → IsFinished core entries
    → IsJournalOf (opening_play opening frames limits) entries committed replies
unfolding IsPlayed
journal_of core entries opening frames limits committed replies played reached of count are finished =
    let s : State = core.state in
    let by_limits : Plays (opening_play s.opening s.frames (bounded limits)) entries core = subst (λ (l : Limits). Plays (opening_play s.opening s.frames l) entries core) of.within played in
    let by_frames : Plays (opening_play s.opening frames (bounded limits)) entries core = subst (λ (fs : List Frame). Plays (opening_play s.opening fs (bounded limits)) entries core) of.frames by_limits in
    let by_book : Plays (opening_play opening frames (bounded limits)) entries core = subst (λ (rows : Rows). Plays (opening_play rows frames (bounded limits)) entries core) of.opened by_frames in
    record {
      core = core;
      plays = subst (λ (p : Play). Plays p entries core) (opened_bounded opening frames limits) by_book;
      count = count;
      rest = replies_to (rows_after s.opening (take s.board.committed s.frames)) (drop s.board.committed s.frames);
      begins =
          ap (λ (rs : List ReplyBody). rs ++ replies_to (rows_after s.opening (take s.board.committed s.frames)) (drop s.board.committed s.frames)) (replies-reached s reached)
          ∙ replies_of_both s.opening s.frames s.board.committed
          ∙ ap (λ (rows : Rows). replies_to rows s.frames) of.opened ∙ ap (replies_to opening) of.frames ∙ sym are;
      finished = finished;
    }

-- what a core has committed to whose end some entries play, a run of a core committed
pub committed_so : {E : Type 0} (start core : Play) (r : Result RunOutcome E) → IsSomeEnd core → IfOk r (λ outcome. AreJournals start core outcome.committed outcome.replies.items) → IfOk r (λ outcome. AreCommitted start outcome.committed outcome.replies.items)
committed_so start core (Ok outcome) some are = (some.entries, are some.entries some.played some.finished)
committed_so start core (Err e) some are = tt
