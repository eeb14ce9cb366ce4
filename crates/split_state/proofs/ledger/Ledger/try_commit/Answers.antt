use Rattle.std.proofs.Common.{refl, subst, sym}
use Rattle.split_state.proofs.LedgerLaws.{further_fold}
use Rattle.split_state.specs.Progress.{Progress, IsNext}
use Rattle.split_state.proofs.ledger.Ledger.try_commit.Goals as goal

pub invariant_of-self-2 : goal.invariant_of-self-2
invariant_of-self-2 c =
    let p : Progress = record { opening = c.self.inside.opening.now; frames = c.self.inside.frames.now; count = c.self.inside.prefix.count } in
    let next : IsNext p c.args.execution.now = subst (λ (x : Progress). IsNext x c.args.execution.now) (sym c.self.view_is) (c.if-not-is_next.ensures.0 refl) in
    rw (c.in_ok-extend.ensures.count, c.in_ok-extend.ensures.replies, c.in_ok-extend.ensures.book)
    (further_fold p c.args.execution.now c.self.inside.prefix.replies.items c.self.inside.prefix.book c.self.invariant next c.frame.ensures.local)
