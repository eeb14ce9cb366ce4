use Rattle.std.proofs.Common.{◌≡◌, ◌≤◌, length}
use Rattle.file_laws.specs.Replies.{RepliesAt}
use Rattle.file_batch.specs.Window.{ahead}
use Rattle.file_batch.specs.Device.{KeepsDevice}
use Rattle.file_batch.proofs.window.Window.read_replies.Given as goal

-- the replies of the bodies so far
abbrev pub invariant-loop-index : goal.invariant-loop-index
invariant-loop-index g l = record {
  device : KeepsDevice g.R.Source.is_known g.R.Source.has_failed g.R.Source.may_fail l.fn.source l.source;
  within : l.index ≤ l.count;
  count : length l.replies.items ≡ l.index;
  replies : g.R.Source.is_known l.fn.source → RepliesAt l.index (ahead l.fn.self (g.R.Source.remaining l.fn.source)) l.replies.items (ahead l.self (g.R.Source.remaining l.source));
}
