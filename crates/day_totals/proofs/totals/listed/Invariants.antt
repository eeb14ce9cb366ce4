use Rattle.std.proofs.Common.{◌≡◌, ◌++◌, map}
use Rattle.day_totals.proofs.totals.listed.Given as goal

-- the totals so far, and those that are left
abbrev pub invariant-loop-name : goal.invariant-loop-name
invariant-loop-name l = map (λ t. (t.name, t.sum)) l.totals.items ++ l.name-iterator ≡ l.fn.tally.entries
