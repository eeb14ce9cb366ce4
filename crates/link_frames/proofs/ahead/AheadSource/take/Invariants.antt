use Rattle.std.proofs.Common.{◌≡◌, length}
use Rattle.rtrb.specs.Ring.{received}
use Rattle.link_frames.specs.Ahead.{MayFail, IsReadAhead}
use Rattle.link_frames.proofs.ahead.AheadSource.take.Given as goal

-- nothing came yet
abbrev pub invariant-loop : goal.invariant-loop
invariant-loop g l = record {
  none : received l.self.inbound ≡ received l.fn.self.inbound;
  failed : l.self.has_failed ≡ l.fn.self.has_failed;
  size : length l.buffer ≡ length l.fn.buffer;
  known : IsReadAhead g.L.Link.is_known g.L.Link.bytes (received l.fn.self.inbound) l.fn.self.last → IsReadAhead g.L.Link.is_known g.L.Link.bytes (received l.self.inbound) l.self.last;
  may : MayFail g.L.Link.may_fail l.self.last → MayFail g.L.Link.may_fail l.fn.self.last;
}
