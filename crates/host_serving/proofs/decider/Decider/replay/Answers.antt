use Rattle.host_serving.proofs.Servings.{replayed}
use Rattle.host_serving.proofs.decider.Decider.replay.Goals as goal

pub loop-bodies-preserved : goal.loop-bodies-preserved
loop-bodies-preserved g c =
    replayed c.args.entries.now c.loop-bodies.bodies-index c.bodies-item.result c.args.self.now c.loop-bodies.self c.decide.new.self c.loop-bodies-test.true c.bodies-item.is c.loop-bodies.invariant c.in_ok-decide.ensures.decided
