use Rattle.std.proofs.Common.{◌≡◌, take}
use Rattle.day_totals.specs.Page.{most_of}
use Rattle.day_totals.proofs.bars.most_of.Given as goal

-- the greatest so far
abbrev pub invariant-loop-total : goal.invariant-loop-total
invariant-loop-total l = l.most ≡ most_of (take l.total-index l.totals)
