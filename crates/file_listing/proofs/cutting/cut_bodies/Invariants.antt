use Rattle.file_listing.proofs.Steps.{Cut}
use Rattle.file_listing.proofs.cutting.cut_bodies.Given as goal

-- the bodies so far
abbrev pub invariant-loop-left : goal.invariant-loop-left
invariant-loop-left l = Cut l.count l.bytes l.left l.rest l.bodies.items

abbrev pub decreases-loop-left : goal.decreases-loop-left
decreases-loop-left l = l.left
