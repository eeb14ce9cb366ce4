use Rattle.std.proofs.Common.{◌<◌, ◌+◌, ℕ, Option, Some, None, get_or, set, refl, sym, subst, ◌∙◌, arith, length-set}
use borrow.Author.Tests.{ltb-true}
use Rattle.std.proofs.lemmas.List.{get_or_default}
use Rattle.stm_scheduler.proofs.Boards.{sound_with, settled_set, running_there, running_past, running_waits, ready_waits}
use Rattle.stm_scheduler.proofs.Lists.{lists_changed, lists_blocked}
use Rattle.stm_scheduler.specs.contracts.scheduler.Scheduler.{the_view}
use Rattle.stm_scheduler.specs.Words.{IsRunning, IsSound, Schedule, unstamped}
use Rattle.stm_scheduler.specs.declared.message_progress.MessageProgress.{MessageProgress}
use Rattle.stm_scheduler.specs.declared.status.Status.TheVariants as status
use Rattle.stm_scheduler.proofs.scheduler.Scheduler.block.Goals as goal
use Rattle.stm_scheduler.proofs.scheduler.Scheduler.block.Goals.{then-on-version, else-on-version}

pub invariant_of-self : goal.invariant_of-self
invariant_of-self c =
    let s : Schedule = the_view c.self.inside in
    let i = c.args.version.index in
    let on = c.args.on in
    let firsts = c.self.inside.firsts.items in
    let nexts = c.self.inside.nexts.items in
    let m : MessageProgress = unstamped (status.Waiting on) (c.index_mut-mark.result.now.incarnation + 1) in
    let running : IsRunning s.board c.args.version = subst (λ (x : Schedule). IsRunning x.board c.args.version) (sym c.self.view_is) c.requires.running in
    let past = running_past s firsts nexts i c.self.invariant.0 running.0 in
    let there = running_there s.board.marks i running.0 in
    let before : on < i = elim c.if-on-version.branch [ then-on-version w ↦ w.if-on-version.true | else-on-version w ↦ ltb-true on i (sym w.waits-is ∙ c.if-waits.true) ] in
    let headed = c.self.invariant.0.headed in
    let linked = c.self.invariant.0.linked in
    let first = c.index-then-waits.ensures ∙ sym (get_or_default firsts on None c.index-then-waits.result.now (omega arith)) in
    let lists = lists_blocked s.board.marks firsts nexts i on m c.self.invariant.0.lists there (omega arith) (omega arith) (λ other w. running_waits other (sym running.0 ∙ w)) refl in (
      subst (λ (f : Option ℕ). IsSound (record s { board = record s.board { marks = set s.board.marks i m } }) (set firsts on (Some i)) (set nexts i f)) (sym first)
          (sound_with s firsts nexts (set firsts on (Some i)) (set nexts i (get_or firsts on None)) (set s.board.marks i m) s.board.floors s.board.epoch s.execution s.validation c.self.invariant.0 (length-set s.board.marks i m) refl (length-set firsts on (Some i)) (length-set nexts i (get_or firsts on None)) (omega arith) (omega arith) (settled_set s firsts nexts i m c.self.invariant.0 past) lists),
      c.self.invariant.1,
    )

pub invariant_of-self-else-waits : goal.invariant_of-self-else-waits
invariant_of-self-else-waits c =
    let s : Schedule = the_view c.self.inside in
    let i = c.args.version.index in
    let firsts = c.self.inside.firsts.items in
    let nexts = c.self.inside.nexts.items in
    let m : MessageProgress = unstamped status.Ready (c.index_mut-mark.result.now.incarnation + 1) in
    let running : IsRunning s.board c.args.version = subst (λ (x : Schedule). IsRunning x.board c.args.version) (sym c.self.view_is) c.requires.running in
    let past = running_past s firsts nexts i c.self.invariant.0 running.0 in
    let there = running_there s.board.marks i running.0 in
    let e = c.min-self-inside.ensures in
    let lists = lists_changed s.board.marks firsts nexts i m c.self.invariant.0.lists there (λ on w. running_waits on (sym running.0 ∙ w)) ready_waits in (
      sound_with s firsts nexts firsts nexts (set s.board.marks i m) s.board.floors s.board.epoch c.min-self-inside.result s.validation c.self.invariant.0 (length-set s.board.marks i m) refl refl refl (omega arith) (omega arith) (settled_set s firsts nexts i m c.self.invariant.0 past) lists,
      c.self.invariant.1,
    )
