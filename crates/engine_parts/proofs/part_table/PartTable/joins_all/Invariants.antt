use Rattle.std.proofs.Common.{take}
use Rattle.std.specs.List.{AllByRecursion}
use Rattle.engine_parts.specs.Ties.{IsOfOnePart}
use Rattle.engine_parts.proofs.part_table.PartTable.joins_all.Given as goal

-- the links before this one join
abbrev pub invariant-loop-link : goal.invariant-loop-link
invariant-loop-link l = AllByRecursion (IsOfOnePart l.self.of_number.items) (take l.link-index l.links)
