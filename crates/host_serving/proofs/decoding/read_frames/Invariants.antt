use Rattle.std.proofs.Common.{◌≡◌, ◌++◌, ℕ, List, length}
use Rattle.file_laws.specs.Frames.{AreFramesOf}
use Rattle.host_serving.proofs.decoding.read_frames.Given as goal

-- the frames of the bodies so far, and the bodies that are left
abbrev pub invariant-loop : goal.invariant-loop
invariant-loop l = (front : List (List ℕ)) × (length front ≡ l.counter) × (l.bodies ≡ front ++ l.left) × AreFramesOf front l.frames.items
