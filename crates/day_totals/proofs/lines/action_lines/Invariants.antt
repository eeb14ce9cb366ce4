use Rattle.std.proofs.Common.{◌≡◌, take}
use Rattle.std.specs.List.{flat_map}
use Rattle.day_totals.specs.Lines.{action_line}
use Rattle.day_totals.proofs.lines.action_lines.Given as goal

-- the lines of the totals so far
abbrev pub invariant-loop-total : goal.invariant-loop-total
invariant-loop-total l = l.text.items ≡ flat_map action_line (take l.total-index l.totals)
