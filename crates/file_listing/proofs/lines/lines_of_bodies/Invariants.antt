use Rattle.file_listing.proofs.Steps.{SoFar}
use Rattle.file_listing.proofs.lines.lines_of_bodies.Given as goal

-- the lines of the bodies that were read
abbrev pub invariant-loop-left : goal.invariant-loop-left
invariant-loop-left l = SoFar l.count l.bytes l.left l.rest l.text.items

abbrev pub decreases-loop-left : goal.decreases-loop-left
decreases-loop-left l = l.left
