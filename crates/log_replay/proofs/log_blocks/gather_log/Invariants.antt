use Rattle.std.proofs.Common.{◌≤◌}
use Rattle.log_replay.specs.Gathering.{IsGathering}
use Rattle.log_replay.proofs.log_blocks.gather_log.Given as goal

-- the messages of the entries so far were gathered
abbrev pub invariant-loop : goal.invariant-loop
invariant-loop g l = record {
  way : IsGathering g.R.Source.is_known g.R.Source.remaining l.fn.reader l.reader l.fn.gathering l.gathering l.taken;
  few : l.taken ≤ l.messages;
  may : g.R.Source.may_fail l.reader.input.source → g.R.Source.may_fail l.fn.reader.input.source;
}
