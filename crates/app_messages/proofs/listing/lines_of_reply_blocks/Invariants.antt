use Rattle.std.proofs.Common.{◌≡◌, ◌+◌, ◌≤◌, ◌++◌, length}
use Rattle.std.specs.List.{AllByRecursion}
use Rattle.file_blocks.specs.BlockFiles.{replies_of}
use Rattle.app_messages.specs.Lines.{reply_block_lines}
use Rattle.app_messages.proofs.listing.lines_of_reply_blocks.Given as goal

-- the lines so far, and those of the rest
abbrev pub invariant-loop-block : goal.invariant-loop-block
invariant-loop-block l = record {
  room : l.number + length l.rest ≤ 1000;
  each : AllByRecursion (λ block. length block.items ≤ 65536) l.rest;
  lines : l.text.items ++ reply_block_lines l.form l.number (replies_of l.rest) ≡ reply_block_lines l.form 0 (replies_of l.blocks);
}

abbrev pub decreases-loop-block : goal.decreases-loop-block
decreases-loop-block l = length l.rest
