use Rattle.std.proofs.Common.{◌≡◌, ◌++◌, length}
use Rattle.std.specs.List.{AllByRecursion, flat_map}
use Rattle.file_laws.specs.Files.{AreBodies}
use Rattle.file_listing.specs.BlockText.{block_file_text, block_text}
use Rattle.app_messages.specs.Handed.{bodies_of_blocks}
use Rattle.app_messages.proofs.block_writing.text_of_blocks.Given as goal

-- the text so far, and the blocks of the rest
abbrev pub invariant-loop-block : goal.invariant-loop-block
invariant-loop-block l = record {
  fit : AllByRecursion AreBodies (bodies_of_blocks l.rest);
  text : l.text.items ++ flat_map block_text (bodies_of_blocks l.rest) ≡ block_file_text (bodies_of_blocks l.blocks);
}

abbrev pub decreases-loop-block : goal.decreases-loop-block
decreases-loop-block l = length l.rest
