use Rattle.log_replay.specs.Gathering.{GathersFirst}
use Rattle.log_replay.proofs.gathering.Gathering.take_bodies.Given as goal

-- the messages of the bodies so far were gathered
abbrev pub invariant-loop : goal.invariant-loop
invariant-loop l = GathersFirst l.bodies l.left l.counter l.fn.self l.self
