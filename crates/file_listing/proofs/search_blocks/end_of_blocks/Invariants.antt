use Rattle.file_listing.specs.Places.{AreBlocks}
use Rattle.file_listing.proofs.search_blocks.end_of_blocks.Given as goal

-- so many blocks were read
abbrev pub invariant-loop-number : goal.invariant-loop-number
invariant-loop-number l = AreBlocks l.kind l.file 10 l.number l.end
