use Rattle.std.proofs.Common.{◌≡◌, ℕ, take, filter_map, subst, ap, ◌∙◌}
use Rattle.stm_memory.specs.Resolves.{IsLaidOver}
use Rattle.issuer_rows.specs.Fold.{rows_after, replies_to}
use Rattle.stm_core_laws.proofs.Reached.{replies-reached, rows-reached}
use Rattle.stm_core_laws.specs.Words.{ExecutionSlot, Play, State, shelf}
use Rattle.stm_core.proofs.Resolving.{one_laid}
use Rattle.stm_core.specs.contracts.speculative.Core.{the_view}
use Rattle.stm_core.proofs.speculative.Core.prefix.Goals as goal

pub returns-clause-book : goal.returns-clause-book
returns-clause-book c =
    let s : State = (the_view c.self.inside).state in
    let laid : IsLaidOver (shelf s) s.board.committed s.opening c.in_ok-book.book = subst (λ (n : ℕ). IsLaidOver (shelf s) n s.opening c.in_ok-book.book) c.committed-count.ensures.count c.in_ok-book.ensures in
    c.of.ensures.book
    ∙ subst (λ (p : Play). c.in_ok-book.book ≡ rows_after p.state.opening (take p.state.board.committed p.state.frames)) c.self.view_is
    (one_laid (shelf s) s.board.committed s.opening c.in_ok-book.book (rows_after s.opening (take s.board.committed s.frames)) laid (rows-reached s c.self.invariant.reached))

pub returns-clause-replies : goal.returns-clause-replies
returns-clause-replies c =
    let s : State = (the_view c.self.inside).state in
    c.of.ensures.replies
    ∙ subst (λ (p : Play). c.in_ok-replies.replies.items ≡ replies_to p.state.opening (take p.state.board.committed p.state.frames)) c.self.view_is
    (c.in_ok-replies.ensures
    ∙ ap (filter_map (λ (k : ExecutionSlot). k.reply)) (ap (take c.committed-count.result) c.deref.ensures.value ∙ ap (λ (n : ℕ). take n s.slots) c.committed-count.ensures.count)
    ∙ replies-reached s c.self.invariant.reached)
