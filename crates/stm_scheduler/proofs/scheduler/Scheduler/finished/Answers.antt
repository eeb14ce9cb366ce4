use Rattle.std.proofs.Common.{◌≡◌, ◌+◌, ℕ, List, Option, None, length, set, map, refl, ap, sym, subst, ◌∙◌, arith, length-set}
use Rattle.std.proofs.lemmas.List.{get_or_default, length-map}
use Rattle.stm_scheduler.proofs.Boards.{sound_with, lowered-IsHighest, lowered_before, settled_set, settled_woken, running_there, running_past, running_waits, executed_waits}
use Rattle.stm_scheduler.proofs.Lists.{lists_changed, lists_woken}
use Rattle.stm_scheduler.specs.contracts.scheduler.Scheduler.{the_view}
use Rattle.stm_scheduler.specs.Words.{IsLoweredToWaiting, IsRunning, Schedule, WaitList, unstamped}
use Rattle.stm_scheduler.specs.Words.{woken}
use Rattle.stm_scheduler.specs.declared.message_progress.MessageProgress.{MessageProgress}
use Rattle.stm_scheduler.specs.declared.status.Status.TheVariants as status
use Rattle.stm_scheduler.proofs.scheduler.Scheduler.finished.Goals as goal

pub wake-self-inside-requires-clause-listed : goal.wake-self-inside-requires-clause-listed
wake-self-inside-requires-clause-listed c =
    let s : Schedule = the_view c.self.inside in
    let i = c.args.version.index in
    let firsts = c.self.inside.firsts.items in
    let nexts = c.self.inside.nexts.items in
    let m : MessageProgress = unstamped status.Executed c.index_mut-mark.result.now.incarnation in
    let running : IsRunning s.board c.args.version = subst (λ (x : Schedule). IsRunning x.board c.args.version) (sym c.self.view_is) c.requires.running in
    let there = running_there s.board.marks i running.0 in
    let headed = c.self.invariant.0.headed in
    let lists = lists_changed s.board.marks firsts nexts i m c.self.invariant.0.lists there (λ on w. running_waits on (sym running.0 ∙ w)) executed_waits in
    let first = c.index-first.ensures ∙ sym (get_or_default firsts i None c.index-first.result.now (omega arith)) in
    subst (λ (ns : List (Option ℕ)). WaitList (set s.board.marks i m) ns c.index-first.result.now i) (sym c.deref.ensures.value)
    (subst (λ (f : Option ℕ). WaitList (set s.board.marks i m) nexts f i) (sym first) (lists i))

pub invariant_of-self : goal.invariant_of-self
invariant_of-self c =
    let s : Schedule = the_view c.self.inside in
    let i = c.args.version.index in
    let firsts = c.self.inside.firsts.items in
    let nexts = c.self.inside.nexts.items in
    let m : MessageProgress = unstamped status.Executed c.index_mut-mark.result.now.incarnation in
    let running : IsRunning s.board c.args.version = subst (λ (x : Schedule). IsRunning x.board c.args.version) (sym c.self.view_is) c.requires.running in
    let there = running_there s.board.marks i running.0 in
    let headed = c.self.invariant.0.headed in
    let lists = lists_changed s.board.marks firsts nexts i m c.self.invariant.0.lists there (λ on w. running_waits on (sym running.0 ∙ w)) executed_waits in
    let past = running_past s firsts nexts i c.self.invariant.0 running.0 in
    let woken_marks : c.wake-self-inside.new.marks.items ≡ map (woken i) (set s.board.marks i m) = c.wake-self-inside.ensures.marks in
    let many : length c.wake-self-inside.new.marks.items ≡ length s.board.marks = ap length woken_marks ∙ length-map (set s.board.marks i m) (woken i) ∙ length-set s.board.marks i m in
    let cursor = c.wake-self-inside.ensures.cursor.0 in
    let settled = settled_woken (set s.board.marks i m) c.wake-self-inside.new.marks.items i s.board.committed (settled_set s firsts nexts i m c.self.invariant.0 past) woken_marks in
    let after = lists_woken (set s.board.marks i m) c.wake-self-inside.new.marks.items firsts nexts i lists (omega arith) woken_marks in (
      sound_with s firsts nexts (set firsts i None) nexts c.wake-self-inside.new.marks.items s.board.floors s.board.epoch c.wake-self-inside.result s.validation c.self.invariant.0 many refl (length-set firsts i None) refl cursor (omega arith) settled after,
      c.self.invariant.1,
    )

pub returns-then-not-new-clause-execution : goal.returns-then-not-new-clause-execution
returns-then-not-new-clause-execution c =
    let s : Schedule = the_view c.self.inside in
    let i = c.args.version.index in
    let firsts = c.self.inside.firsts.items in
    let nexts = c.self.inside.nexts.items in
    let m : MessageProgress = unstamped status.Executed c.index_mut-mark.result.now.incarnation in
    let running : IsRunning s.board c.args.version = subst (λ (x : Schedule). IsRunning x.board c.args.version) (sym c.self.view_is) c.requires.running in
    let there = running_there s.board.marks i running.0 in
    let headed = c.self.invariant.0.headed in
    subst (λ (x : Schedule). IsLoweredToWaiting x.board.marks i x.execution c.wake-self-inside.result) c.self.view_is
    (lowered_before s.board.marks i s.execution c.wake-self-inside.result m there running.0 refl c.wake-self-inside.ensures.cursor)

pub invariant_of-self-2 : goal.invariant_of-self-2
invariant_of-self-2 c =
    let s : Schedule = the_view c.self.inside in
    let i = c.args.version.index in
    let firsts = c.self.inside.firsts.items in
    let nexts = c.self.inside.nexts.items in
    let m : MessageProgress = unstamped status.Executed c.index_mut-mark.result.now.incarnation in
    let running : IsRunning s.board c.args.version = subst (λ (x : Schedule). IsRunning x.board c.args.version) (sym c.self.view_is) c.requires.running in
    let there = running_there s.board.marks i running.0 in
    let headed = c.self.invariant.0.headed in
    let lists = lists_changed s.board.marks firsts nexts i m c.self.invariant.0.lists there (λ on w. running_waits on (sym running.0 ∙ w)) executed_waits in
    let past = running_past s firsts nexts i c.self.invariant.0 running.0 in
    let woken_marks : c.wake-self-inside.new.marks.items ≡ map (woken i) (set s.board.marks i m) = c.wake-self-inside.ensures.marks in
    let many : length c.wake-self-inside.new.marks.items ≡ length s.board.marks = ap length woken_marks ∙ length-map (set s.board.marks i m) (woken i) ∙ length-set s.board.marks i m in
    let cursor = c.wake-self-inside.ensures.cursor.0 in
    let settled = settled_woken (set s.board.marks i m) c.wake-self-inside.new.marks.items i s.board.committed (settled_set s firsts nexts i m c.self.invariant.0 past) woken_marks in
    let after = lists_woken (set s.board.marks i m) c.wake-self-inside.new.marks.items firsts nexts i lists (omega arith) woken_marks in
    let v = c.min-self-inside.ensures in (
      sound_with s firsts nexts (set firsts i None) nexts c.wake-self-inside.new.marks.items (set s.board.floors (i + 1) (s.board.epoch + 1)) (s.board.epoch + 1) c.wake-self-inside.result c.min-self-inside.result c.self.invariant.0 many (length-set s.board.floors (i + 1) (s.board.epoch + 1)) (length-set firsts i None) refl cursor (omega arith) settled after,
      lowered-IsHighest s.board c.wake-self-inside.new.marks.items i c.self.inside.highest past c.self.invariant.1,
    )

pub returns-clause-execution : goal.returns-clause-execution
returns-clause-execution c =
    let s : Schedule = the_view c.self.inside in
    let i = c.args.version.index in
    let firsts = c.self.inside.firsts.items in
    let nexts = c.self.inside.nexts.items in
    let m : MessageProgress = unstamped status.Executed c.index_mut-mark.result.now.incarnation in
    let running : IsRunning s.board c.args.version = subst (λ (x : Schedule). IsRunning x.board c.args.version) (sym c.self.view_is) c.requires.running in
    let there = running_there s.board.marks i running.0 in
    let headed = c.self.invariant.0.headed in
    subst (λ (x : Schedule). IsLoweredToWaiting x.board.marks i x.execution c.wake-self-inside.result) c.self.view_is
    (lowered_before s.board.marks i s.execution c.wake-self-inside.result m there running.0 refl c.wake-self-inside.ensures.cursor)
