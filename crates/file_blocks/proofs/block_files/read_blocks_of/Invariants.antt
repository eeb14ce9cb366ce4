use Rattle.std.proofs.Common.{◌≡◌, ◌≤◌, length}
use Rattle.std.specs.List.{All}
use Rattle.file_laws.specs.Blocks.{AreBlocks}
use Rattle.file_blocks.specs.BlockFiles.{frames_of}
use Rattle.file_batch.specs.Window.{ahead}
use Rattle.file_batch.specs.Device.{KeepsDevice}
use Rattle.file_blocks.proofs.block_files.read_blocks_of.Given as goal

-- the blocks so far
abbrev pub invariant-loop : goal.invariant-loop
invariant-loop g l = record {
  device : KeepsDevice g.R.Source.is_known g.R.Source.has_failed g.R.Source.may_fail l.fn.source l.source;
  within : l.counter ≤ l.count;
  count : length l.blocks.items ≡ l.counter;
  each : All (λ block. length block.items ≤ 65536) l.blocks.items;
  blocks : g.R.Source.is_known l.fn.source → AreBlocks (ahead l.fn.window (g.R.Source.remaining l.fn.source)) (frames_of l.blocks.items) (ahead l.window (g.R.Source.remaining l.source));
}
