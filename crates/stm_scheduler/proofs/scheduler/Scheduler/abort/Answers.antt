use Rattle.std.proofs.Common.{◌+◌, set, refl, sym, subst, ◌∙◌, arith, length-set}
use Rattle.stm_scheduler.proofs.Boards.{sound_with, lowered-IsHighest, settled_set, executed_there, executed_waits, ready_waits}
use Rattle.stm_scheduler.proofs.Lists.{lists_changed}
use Rattle.stm_scheduler.specs.contracts.scheduler.Scheduler.{the_view}
use Rattle.stm_scheduler.specs.Words.{IsOpen, Schedule, unstamped}
use Rattle.stm_scheduler.specs.declared.message_progress.MessageProgress.{MessageProgress}
use Rattle.stm_scheduler.specs.declared.status.Status.TheVariants as status
use Rattle.stm_scheduler.proofs.scheduler.Scheduler.abort.Goals as goal

pub invariant_of-self : goal.invariant_of-self
invariant_of-self c =
    let s : Schedule = the_view c.self.inside in
    let i = c.args.version.index in
    let m : MessageProgress = unstamped status.Ready (c.index_mut-mark.result.now.incarnation + 1) in
    let opened : IsOpen s.board c.args.version = subst (λ (x : Schedule). IsOpen x.board c.args.version) (sym c.self.view_is) c.requires.executed in
    let e = c.min-self-inside.ensures in
    let v = c.min-self-inside-2.ensures in
    let lists = lists_changed s.board.marks c.self.inside.firsts.items c.self.inside.nexts.items i m c.self.invariant.0.lists (executed_there s.board.marks i opened.0.0) (λ on w. executed_waits on (sym opened.0.0 ∙ w)) ready_waits in (
      sound_with s c.self.inside.firsts.items c.self.inside.nexts.items c.self.inside.firsts.items c.self.inside.nexts.items (set s.board.marks i m) (set s.board.floors (i + 1) (s.board.epoch + 1)) (s.board.epoch + 1) c.min-self-inside.result c.min-self-inside-2.result c.self.invariant.0 (length-set s.board.marks i m) (length-set s.board.floors (i + 1) (s.board.epoch + 1)) refl refl (omega arith) (omega arith) (settled_set s c.self.inside.firsts.items c.self.inside.nexts.items i m c.self.invariant.0 opened.1) lists,
      lowered-IsHighest s.board (set s.board.marks i m) i c.self.inside.highest opened.1 c.self.invariant.1,
    )
