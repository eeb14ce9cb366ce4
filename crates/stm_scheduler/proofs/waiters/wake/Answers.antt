use Rattle.std.proofs.Common.{arith}
use Rattle.stm_scheduler.proofs.Lists.{waking_starts, waking_step, waking_falls, next_there, woken_at_end}
use Rattle.stm_scheduler.proofs.waiters.wake.Goals as goal

pub loop-next-init : goal.loop-next-init
loop-next-init c = (c.requires.listed.list, waking_starts c.args.marks.now.items c.args.nexts.now c.args.first c.args.index c.args.cursor c.requires.listed)

pub index_mut-requires : goal.index_mut-requires
index_mut-requires c =
    let l = next_there c.args.marks.now.items c.loop-next.marks.items c.args.nexts.now c.loop-next.next c.args.index c.args.cursor c.loop-next.least c.in-Some.waiting c.loop-next.invariant.0 c.in-Some.is c.loop-next.invariant.1 in
    let len = c.loop-next.marks.ok.0 in
    omega arith

pub bounds-nexts-waiting : goal.bounds-nexts-waiting
bounds-nexts-waiting c =
    let l = next_there c.args.marks.now.items c.loop-next.marks.items c.args.nexts.now c.loop-next.next c.args.index c.args.cursor c.loop-next.least c.in-Some.waiting c.loop-next.invariant.0 c.in-Some.is c.loop-next.invariant.1 in
    let many = c.loop-next.invariant.1.many in
    let linked = c.requires.nexts in
    omega arith

pub loop-next-preserved : goal.loop-next-preserved
loop-next-preserved c =
    waking_step c.args.marks.now.items c.loop-next.marks.items c.args.nexts.now c.loop-next.next c.args.index c.args.cursor c.loop-next.least c.min-least.result c.in-Some.waiting c.loop-next.invariant.0 c.index_mut.result.now c.in-Some.is c.loop-next.invariant.1 c.index_mut.ensures.value c.min-least.ensures

pub loop-next-smaller : goal.loop-next-smaller
loop-next-smaller c =
    waking_falls c.args.marks.now.items c.loop-next.marks.items c.args.nexts.now c.loop-next.next c.args.index c.args.cursor c.loop-next.least c.in-Some.waiting c.loop-next.invariant.0 c.index_mut.result.now c.in-Some.is c.loop-next.invariant.1 c.index_mut.ensures.value

pub returns-clause-marks : goal.returns-clause-marks
returns-clause-marks c =
    (woken_at_end c.args.marks.now.items c.loop-next.marks.items c.args.nexts.now c.loop-next.next c.args.index c.args.cursor c.loop-next.least c.loop-next.invariant.0 c.in_default.not-Some c.loop-next.invariant.1).0

pub returns-clause-cursor : goal.returns-clause-cursor
returns-clause-cursor c =
    (woken_at_end c.args.marks.now.items c.loop-next.marks.items c.args.nexts.now c.loop-next.next c.args.index c.args.cursor c.loop-next.least c.loop-next.invariant.0 c.in_default.not-Some c.loop-next.invariant.1).1
