use Rattle.std.proofs.Common.{◌≤◌, ◌+◌, length, map}
use Rattle.file_listing.proofs.LineSteps.{AreReadSoFar}
use Rattle.file_listing.proofs.bodies.all_bodies.Given as goal

abbrev pub invariant-loop-line : goal.invariant-loop-line
invariant-loop-line l = record {
  read : AreReadSoFar l.text (map (λ body. body.items) l.bodies.items) l.number l.rest;
  few : l.number + length l.rest ≤ length l.text + 1;
}

abbrev pub decreases-loop-line : goal.decreases-loop-line
decreases-loop-line l = length l.rest
