use Rattle.std.proofs.Common.{◌≡◌, take}
use Rattle.issuer_fold.proofs.frames.are_same_frames.Given as goal

abbrev pub invariant-loop-index : goal.invariant-loop-index
invariant-loop-index l = take l.index l.mine ≡ take l.index l.theirs
