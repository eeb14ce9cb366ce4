use Rattle.std.proofs.Common.{◌≡◌, ◌++◌, take}
use Rattle.std.specs.List.{flat_map}
use Rattle.day_totals.specs.Page.{row}
use Rattle.day_totals.proofs.rows.add_rows.Given as goal

-- the rows of the totals so far are appended
abbrev pub invariant-loop-total : goal.invariant-loop-total
invariant-loop-total l = l.html.items ≡ l.fn.html.items ++ flat_map row (take l.total-index l.totals)
