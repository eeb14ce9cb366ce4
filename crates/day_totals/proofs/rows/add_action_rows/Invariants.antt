use Rattle.std.proofs.Common.{◌≡◌, ◌++◌, take}
use Rattle.std.specs.List.{flat_map}
use Rattle.day_totals.specs.Page.{action_row}
use Rattle.day_totals.proofs.rows.add_action_rows.Given as goal

-- the rows of the totals so far are appended
abbrev pub invariant-loop-total : goal.invariant-loop-total
invariant-loop-total l = l.html.items ≡ l.fn.html.items ++ flat_map (action_row l.most) (take l.total-index l.totals)
