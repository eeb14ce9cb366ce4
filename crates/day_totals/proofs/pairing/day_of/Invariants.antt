use Rattle.std.proofs.Common.{take}
use Rattle.day_totals.specs.Totals.{IsDayOf}
use Rattle.day_totals.proofs.pairing.day_of.Given as goal

-- the exchanges so far
abbrev pub invariant-loop-index : goal.invariant-loop-index
invariant-loop-index l = IsDayOf (take l.index l.frames) (take l.index l.replies) l.day.items
