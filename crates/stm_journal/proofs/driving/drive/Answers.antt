use Rattle.std.proofs.Common.{sym, ap, subst}
use Rattle.stm_core_laws.proofs.Reached.{IsReached-start}
use Rattle.stm_core_laws.specs.Words.{IsReached, Play}
use Rattle.stm_journal_text.specs.Logged.{greatest}
use Rattle.stm_journal.proofs.driving.drive.Goals as goal
use Rattle.stm_journal.specs.Drives.{IsDriven, empty_hands}

pub take_turns-requires-clause-frames : goal.take_turns-requires-clause-frames
take_turns-requires-clause-frames c = ap (λ (p : Play). p.state.frames) c.in_ok-traced.ensures.core

pub take_turns-requires-clause-reached : goal.take_turns-requires-clause-reached
take_turns-requires-clause-reached c =
    subst (λ (p : Play). IsReached p.state) (sym c.in_ok-traced.ensures.core) (IsReached-start c.args.book.now c.args.frames.now greatest)

pub returns-in-Ok : goal.returns-in-Ok
returns-in-Ok c =
    let done = c.in-Ok.ensures in
    let now = c.take_turns.new.traced in
    (done.0, subst (λ (p : Play). IsDriven p empty_hands c.args.seats.now now.entries now.core done.0) c.in_ok-traced.ensures.core done.1)
