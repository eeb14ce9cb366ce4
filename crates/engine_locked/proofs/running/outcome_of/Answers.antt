use Rattle.std.proofs.Common.{◌≡◌, ◌∙◌, sym}
use Rattle.issuer_rows.specs.Fold.{replies_to}
use Rattle.stm_core_laws.specs.State.{State}
use Rattle.engine_locked.proofs.Finished.{journal_of}
use Rattle.issuer_fold.proofs.FoldLaws.{replies_of_both}
use Rattle.engine_locked.proofs.running.outcome_of.Goals as goal

pub returns-clause-journal : goal.returns-clause-journal
returns-clause-journal c =
    let state : State = c.args.core.state in
    let p = c.in_ok-prefix.ensures in
    let are : c.in_ok-book.field-0.replies.items ≡ replies_to c.args.book.now c.args.frames.now =
    (rw (p.replies, p.book, p.count, c.requires.of_run.opened, c.requires.of_run.frames) at c.in_ok-book.ensures.replies) ∙ replies_of_both c.args.book.now c.args.frames.now state.board.committed in
    λ entries played finished.
    journal_of c.args.core entries c.args.book.now c.args.frames.now c.args.limits c.committed-committed.result c.in_ok-book.field-0.replies.items
    played c.committed-committed.ensures.reached c.requires.of_run (sym c.committed-committed.ensures.value) are finished
