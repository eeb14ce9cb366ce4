use Rattle.std.proofs.Common.{◌≡◌, ◌+◌, ◌-◌, ℕ, List, length}
use Rattle.file_laws.specs.Frames.{IsFrameOf}
use Rattle.rtrb.specs.Ring.{sent, SameProducer, SameConsumer}
use Rattle.file_batch.specs.Pieces.{HasTold, frames_in}
use Rattle.file_batch.specs.Window.{ahead}
use Rattle.file_batch.proofs.ReadBodies.{ItemsAt}
use Rattle.file_batch.specs.Device.{KeepsDevice}
use Rattle.file_batch.proofs.reader.Reader.read_all.Given as goal

-- what was handed over are the first bodies, so many are left, and what came back is in the text
abbrev pub invariant-loop-left : goal.invariant-loop-left
invariant-loop-left g l = record {
  ends : SameProducer l.fn.self.outbound l.self.outbound × SameConsumer l.fn.self.inbound l.self.inbound;
  device : KeepsDevice g.R.Source.is_known g.R.Source.has_failed g.R.Source.may_fail l.fn.source l.source;
  count : length (frames_in (sent l.self.outbound)) + l.left ≡ l.count;
  so_far : g.R.Source.is_known l.fn.source → ItemsAt IsFrameOf (l.count - l.left) (ahead l.fn.window (g.R.Source.remaining l.fn.source))
      (frames_in (sent l.self.outbound)) (ahead l.window (g.R.Source.remaining l.source));
  told : (head : List ℕ) → HasTold head l.fn.self → HasTold head l.self;
}

abbrev pub decreases-loop-left : goal.decreases-loop-left
decreases-loop-left g l = l.left
