use Rattle.std.proofs.Common.{◌≡◌, ◌+◌, ◌-◌, List, ℕ, length, ap, subst, arith}
use Rattle.host_serving.specs.Turn.{HasTaken}
use Rattle.link_frames.specs.Link.{AreSoMany}
use Rattle.host_serving.proofs.Takes.{one_less, one_taken, no_more, some_front}
use Rattle.host_serving.proofs.Turns.{none_taken, taken_more}
use Rattle.host_serving.proofs.taking.take_turn.Goals as goal

pub loop-init : goal.loop-init
loop-init c =
    let all : c.args.count ≡ c.args.count - 0 = omega arith in
    record {
      bodies = omega (arith, ap (λ (x : List (List ℕ)). length x) c.clear.ensures.bodies);
      between = omega (arith, c.clear.ensures.between);
      left = subst (λ (n : ℕ). AreSoMany n c.args.frames.now) all c.requires.frames;
      so_far = none_taken c.args.frames.now c.clear.new.self c.clear.ensures;
    }

pub unreachable-requires : goal.unreachable-requires
unreachable-requires c =
    some_front (c.args.count - (c.loop.counter + 1)) c.loop.rest.now c.front_of.result (one_less c.args.count c.loop.counter c.loop.rest.now c.loop-test.true c.loop.invariant.left) c.front_of.ensures c.in_default.not-Frame

pub loop-preserved : goal.loop-preserved
loop-preserved c =
    let so_far = c.loop.invariant in
    let taken = c.in_ok-take.ensures in
    record {
      bodies = omega (arith, taken.bodies, so_far.bodies);
      between = omega (arith, taken.between, so_far.between);
      left = one_taken (c.args.count - (c.loop.counter + 1)) c.loop.rest.now c.in-Frame.body.now c.in-Frame.behind.now (one_less c.args.count c.loop.counter c.loop.rest.now c.loop-test.true so_far.left) c.in-Frame.ensures.0 c.in-Frame.ensures.1;
      so_far = taken_more c.args.frames.now c.loop.rest.now c.in-Frame.body.now c.in-Frame.behind.now c.loop.turn c.take.new.self so_far.so_far c.in-Frame.ensures.0 c.in-Frame.ensures.1 taken.taken;
    }

pub returns-clause-taken : goal.returns-clause-taken
returns-clause-taken c =
    let none : c.args.count - c.loop.counter ≡ 0 = omega arith in
    subst (λ (rest : List ℕ). HasTaken c.args.frames.now rest c.loop.turn) (no_more c.loop.rest.now (subst (λ (n : ℕ). AreSoMany n c.loop.rest.now) none c.loop.invariant.left)) c.loop.invariant.so_far
