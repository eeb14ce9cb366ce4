use Rattle.std.proofs.Common.{◌≤◌}
use Rattle.log_replay.specs.Answering.{IsCounted, taken}
use Rattle.log_replay.specs.UnderWay.{IsUnderWay}
use Rattle.log_replay.specs.Writing.{Keeps}
use Rattle.log_replay.proofs.replaying.take_log.Given as goal

-- the messages of the entries so far were taken
abbrev pub invariant-loop : goal.invariant-loop
invariant-loop g l = record {
  way : IsUnderWay g.R.Source.is_known g.R.Source.remaining l.fn.reader l.reader l.fn.answering l.answering (g.W.Sink.is_known l.fn.sink) (g.W.Sink.written l.fn.sink) (g.W.Sink.written l.sink);
  few : taken l.answering ≤ l.messages;
  counted : IsCounted l.answering;
  may : g.R.Source.may_fail l.reader.input.source → g.R.Source.may_fail l.fn.reader.input.source;
  sink : Keeps g.W.Sink.is_known g.W.Sink.may_fail l.fn.sink l.sink;
}
