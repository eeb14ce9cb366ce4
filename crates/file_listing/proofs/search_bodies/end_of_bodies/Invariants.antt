use Rattle.file_listing.specs.Places.{AreBodies}
use Rattle.file_listing.proofs.search_bodies.end_of_bodies.Given as goal

-- so many bodies were read
abbrev pub invariant-loop-number : goal.invariant-loop-number
invariant-loop-number l = AreBodies l.kind l.file l.at l.number l.end
