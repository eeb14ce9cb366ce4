use Rattle.std.proofs.Common.{◌<◌, take}
use Rattle.std.specs.List.{AllByRecursion}
use Rattle.engine_parts.proofs.part_table.are_below.Given as goal

-- the parts before this one are below
abbrev pub invariant-loop-part : goal.invariant-loop-part
invariant-loop-part l = AllByRecursion (λ part. part < l.count) (take l.part-index l.parts)
