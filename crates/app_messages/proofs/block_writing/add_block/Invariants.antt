use Rattle.std.proofs.Common.{◌≡◌, ◌++◌, length}
use Rattle.std.specs.List.{AllByRecursion, flat_map}
use Rattle.file_batch.specs.Bodies.{bytes_of}
use Rattle.file_laws.specs.Files.{IsBody, framed}
use Rattle.file_listing.specs.BlockText.{block_text}
use Rattle.app_messages.proofs.block_writing.add_block.Given as goal

-- what stands there, and the bodies of the rest
abbrev pub invariant-loop-body : goal.invariant-loop-body
invariant-loop-body l = record {
  fit : AllByRecursion IsBody (bytes_of l.rest);
  text : l.text.items ++ flat_map framed (bytes_of l.rest) ≡ l.fn.text.items ++ block_text (bytes_of l.bodies);
}

abbrev pub decreases-loop-body : goal.decreases-loop-body
decreases-loop-body l = length l.rest
