use Rattle.std.proofs.Common.{◌≡◌, ◌≤◌, ◌*◌, length}
use Rattle.std.specs.List.{All}
use Rattle.file_laws.specs.Blocks.{AreReplyBlocks, all_replies}
use Rattle.file_blocks.specs.BlockFiles.{replies_of}
use Rattle.file_batch.specs.Window.{ahead}
use Rattle.file_batch.specs.Device.{KeepsDevice}
use Rattle.file_blocks.proofs.block_replies.read_reply_blocks.Given as goal

-- the blocks so far, and how many replies they have
abbrev pub invariant-loop : goal.invariant-loop
invariant-loop g l = record {
  device : KeepsDevice g.R.Source.is_known g.R.Source.has_failed g.R.Source.may_fail l.fn.source l.source;
  within : l.counter ≤ l.count;
  count : length l.blocks.items ≡ l.counter;
  each : All (λ block. length block.items ≤ 65536) l.blocks.items;
  from : l.from ≡ length (all_replies (replies_of l.blocks.items));
  most : l.from ≤ 65536 * l.counter;
  blocks : g.R.Source.is_known l.fn.source → AreReplyBlocks (ahead l.fn.window (g.R.Source.remaining l.fn.source)) (replies_of l.blocks.items) (ahead l.window (g.R.Source.remaining l.source));
}
