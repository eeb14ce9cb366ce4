use Rattle.std.proofs.Common.{◌≡◌, ◌<◌, ◌+◌, ℕ, length, ap, sym, subst, ◌∙◌, arith, rules}
use Rattle.std.proofs.lemmas.List.{get_or_default}
use Rattle.stm_scheduler.proofs.Boards.{more-IsHighest, committed-IsSound}
use Rattle.stm_scheduler.specs.contracts.scheduler.Scheduler.{the_view}
use Rattle.stm_scheduler.specs.Board.{fresh_mark, IsExecuted}
use Rattle.stm_scheduler.specs.Words.{IsHighest, Schedule}
use Rattle.stm_scheduler.specs.declared.message_progress.MessageProgress.{MessageProgress}
use Rattle.stm_scheduler.specs.declared.status.Status.TheVariants as status
use Rattle.stm_scheduler.proofs.scheduler.Scheduler.commit.Goals as goal

pub invariant_of-self : goal.invariant_of-self
invariant_of-self c =
    let s : Schedule = the_view c.self.inside in
    let floored = c.self.invariant.0.floored in
    let l : s.board.committed < length s.board.marks = let few = c.if-index-len.false in let len = c.len.ensures in let many = c.self.inside.marks.ok.0 in omega arith in
    let is : c.index.result.now.status ≡ status.Executed = search (rules, c.if-ne.ensures) in
    let executed : IsExecuted s.board s.board.committed = ap (λ (m : MessageProgress). m.status) (get_or_default c.self.inside.marks.items s.board.committed fresh_mark c.index.result.now l ∙ sym c.index.ensures) ∙ is in
    let next = c.index-in-Some.ensures ∙ sym (get_or_default c.self.inside.floors.items (s.board.committed + 1) 0 c.index-in-Some.result.now (omega arith)) in (
      committed-IsSound s c.self.inside.firsts.items c.self.inside.nexts.items c.self.invariant.0 l executed,
      subst (λ (h : ℕ). IsHighest (record s.board { committed = s.board.committed + 1 }) h) (sym c.max-self-inside.ensures) (more-IsHighest s.board c.self.inside.highest c.index-in-Some.result.now c.self.invariant.1 next),
    )
