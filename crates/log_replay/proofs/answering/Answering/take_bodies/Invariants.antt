use Rattle.log_replay.specs.Answering.{TakesFirst}
use Rattle.log_replay.specs.Writing.{Keeps}
use Rattle.log_replay.proofs.answering.Answering.take_bodies.Given as goal

-- the messages of the bodies so far were taken
abbrev pub invariant-loop : goal.invariant-loop
invariant-loop g l = record {
  taken : TakesFirst l.bodies l.left l.counter l.fn.self l.self (g.W.Sink.is_known l.fn.sink) (g.W.Sink.written l.fn.sink) (g.W.Sink.written l.sink);
  sink : Keeps g.W.Sink.is_known g.W.Sink.may_fail l.fn.sink l.sink;
}
