use Rattle.std.proofs.Common.{◌≡◌, ◌-◌, [], length}
use Rattle.link_frames.specs.Link.{HasFrame}
use Rattle.link_frames.specs.LinkFault.{KeepsSource}
use Rattle.link_frames.specs.Reader.{given, kept, ahead}
use Rattle.link_frames.proofs.reader.LinkReader.next.Given as goal

-- nothing is given yet, and what is ahead is as it was
abbrev pub invariant-reading : goal.invariant-reading
invariant-reading g l = record {
  source : KeepsSource g.R.Source.is_known g.R.Source.has_failed g.R.Source.may_fail l.fn.source l.source;
  none : given l.self ≡ [];
  bytes : g.R.Source.is_known l.fn.source → ahead l.fn.self (g.R.Source.remaining l.fn.source) ≡ ahead l.self (g.R.Source.remaining l.source);
  ready : HasFrame (kept l.fn.self) → (l.source ≡ l.fn.source) × (kept l.self ≡ kept l.fn.self);
}

abbrev pub decreases-reading : goal.decreases-reading
decreases-reading g l = length l.self.buffer.items - length (kept l.self)
