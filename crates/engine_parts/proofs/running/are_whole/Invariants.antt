use Rattle.std.proofs.Common.{◌≡◌, true, take}
use Rattle.std.specs.List.{AllByRecursion}
use Rattle.engine_parts.proofs.running.are_whole.Given as goal

-- those before this one are whole
abbrev pub invariant-loop-part : goal.invariant-loop-part
invariant-loop-part l = AllByRecursion (λ part. part.is_whole ≡ true) (take l.part-index l.parts)
