use Rattle.std.proofs.Common.{◌≡◌, ◌<◌, List, length, sym, subst}
use Rattle.std.proofs.lemmas.Bool.{false≢true}
use Rattle.issuer_words.specs.Words.{Frame, decision, keys_read}
use Rattle.stm_core_laws.specs.State.{slot, IsAt}
use Rattle.stm_journal_text.specs.Logged.{log_rows}
use Rattle.stm_journal_text.proofs.Decided.{undecided}
use Rattle.stm_journal.proofs.Replayed.{at_frame, finished_again, exhausted_again, not_finished}
use Rattle.stm_journal.proofs.replaying.finish_again.Goals as goal

pub returns-in-Err-OtherReads-clause-unlogged : goal.returns-in-Err-OtherReads-clause-unlogged
returns-in-Err-OtherReads-clause-unlogged c =
    let s = c.args.core.now.state in
    let v = c.args.version in
    let x = c.in_ok-execution.execution in
    let e : x.frame ≡ c.index-frames-version.result = c.in_ok-execution.ensures.frame in
    let at : IsAt s.frames v.index x.frame = at_frame c.args.frames.now s.frames v.index c.index-frames-version.result x.frame c.requires (subst (λ (fs : List Frame). v.index < length fs) c.requires (c.is_running.ensures.within c.if-not-is_running.false)) c.index-frames-version.is e in
    let step = rw c.in-Err-OtherReads.field-0-is at c.in-Err-OtherReads.ensures.step in
    λ _. undecided s v x c.finish.new.self.state at
    (subst (λ (f : Frame). keys_read x.reads ≡ (decision (log_rows (slot s v.index).log) f).needs) (sym e) c.in_ok-execution.ensures.keys)
    c.in_ok-execution.ensures.agrees step.0.1

pub returns-then-not-is_running-clause-played : goal.returns-then-not-is_running-clause-played
returns-then-not-is_running-clause-played c =
    λ _. not_finished c.args.core.now c.args.seat c.args.version (λ running. false≢true (c.if-not-is_running.ensures.running.1 running))

pub returns-in-Ok-clause-played : goal.returns-in-Ok-clause-played
returns-in-Ok-clause-played c =
    λ _. finished_again c.args.core.now c.args.seat c.args.version c.in_ok-execution.execution c.in-Ok.field-0 c.finish.new.self c.in-Ok.ensures.step

pub returns-in-Err-Exhausted-clause-played : goal.returns-in-Err-Exhausted-clause-played
returns-in-Err-Exhausted-clause-played c =
    λ _. exhausted_again c.args.core.now c.args.seat c.args.version c.in_ok-execution.execution c.finish.new.self (rw c.in-Err-Exhausted.field-0-is at c.in-Err-Exhausted.ensures.step)
