use Rattle.std.proofs.Common.{take}
use Rattle.std.specs.List.{AllByRecursion}
use Rattle.app_runs.specs.ReadAlike.{IsReadAlike}
use Rattle.app_runs.proofs.read_alike.are_read_alike.Given as goal

abbrev pub invariant-loop-entry : goal.invariant-loop-entry
invariant-loop-entry l = AllByRecursion (λ entry. IsReadAlike l.some l.other entry.event) (take l.entry-index l.entries)
