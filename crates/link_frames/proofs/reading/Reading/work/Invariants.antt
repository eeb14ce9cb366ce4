use Rattle.std.proofs.Common.{◌≡◌, ◌-◌, ◌^◌, min, length}
use Rattle.rtrb.specs.Ring.{sent}
use Rattle.link_frames.specs.Ahead.{IsBehind}
use Rattle.link_frames.proofs.reading.Reading.work.Given as goal

-- what was handed over lies behind the source
abbrev pub invariant-loop : goal.invariant-loop
invariant-loop g l = record {
  behind : IsBehind g.S.Source.is_known g.S.Source.remaining g.S.Source.may_fail g.L.Link.is_known g.L.Link.bytes g.L.Link.may_fail (sent l.self.outbound) l.source;
  counted : l.self.count ≡ min (length (sent l.self.outbound)) (2 ^ 64 - 1);
  known : g.S.Source.is_known l.fn.source → g.S.Source.is_known l.source;
  may : g.S.Source.may_fail l.source → g.S.Source.may_fail l.fn.source;
}
