use Rattle.std.proofs.Common.{map}
use Rattle.file_listing.proofs.BlockSteps.{HaveBegun}
use Rattle.file_listing.proofs.blocks.texts_at.Given as goal

-- the texts of the blocks that were read
abbrev pub invariant-loop-left : goal.invariant-loop-left
invariant-loop-left l = HaveBegun l.count l.bytes l.left l.rest (map (λ text. text.items) l.texts.items)

abbrev pub decreases-loop-left : goal.decreases-loop-left
decreases-loop-left l = l.left
