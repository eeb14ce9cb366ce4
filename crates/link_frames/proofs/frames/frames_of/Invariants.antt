use Rattle.std.proofs.Common.{◌≡◌, ◌-◌, ◌≤◌, ◌++◌, ℕ, List}
use Rattle.link_frames.specs.Link.{AreSoMany}
use Rattle.link_frames.proofs.frames.frames_of.Given as goal

-- so many frames, and the rest
abbrev pub invariant-loop-count : goal.invariant-loop-count
invariant-loop-count l = record {
  most : l.count ≤ l.most;
  frames : (front : List ℕ) × AreSoMany l.count front × (l.bytes ≡ front ++ l.rest);
}

abbrev pub decreases-loop-count : goal.decreases-loop-count
decreases-loop-count l = l.most - l.count
