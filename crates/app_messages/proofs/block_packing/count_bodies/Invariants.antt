use Rattle.std.proofs.Common.{◌≡◌, ◌+◌, length}
use Rattle.file_listing.specs.BlockText.{all_bodies}
use Rattle.app_messages.specs.Handed.{bodies_of_blocks}
use Rattle.app_messages.proofs.block_packing.count_bodies.Given as goal

-- the bodies so far, and those of the rest
abbrev pub invariant-loop-block : goal.invariant-loop-block
invariant-loop-block l = l.count + length (all_bodies (bodies_of_blocks l.rest)) ≡ length (all_bodies (bodies_of_blocks l.blocks))

abbrev pub decreases-loop-block : goal.decreases-loop-block
decreases-loop-block l = length l.rest
