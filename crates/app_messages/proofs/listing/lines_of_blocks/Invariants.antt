use Rattle.std.proofs.Common.{◌≡◌, ◌+◌, ◌≤◌, ◌++◌, length}
use Rattle.std.specs.List.{AllByRecursion}
use Rattle.file_blocks.specs.BlockFiles.{frames_of}
use Rattle.app_messages.specs.Lines.{block_lines}
use Rattle.app_messages.proofs.listing.lines_of_blocks.Given as goal

-- the lines so far, and those of the rest
abbrev pub invariant-loop-block : goal.invariant-loop-block
invariant-loop-block l = record {
  room : l.number + length l.rest ≤ 1000;
  each : AllByRecursion (λ block. length block.items ≤ 65536) l.rest;
  lines : l.text.items ++ block_lines l.form l.number (frames_of l.rest) ≡ block_lines l.form 0 (frames_of l.blocks);
}

abbrev pub decreases-loop-block : goal.decreases-loop-block
decreases-loop-block l = length l.rest
