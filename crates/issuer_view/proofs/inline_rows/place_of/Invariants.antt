use Rattle.std.proofs.Common.{◌≡◌, drop}
use Rattle.issuer_view.specs.RowSets.{value_in}
use Rattle.issuer_view.proofs.inline_rows.place_of.Given as goal

-- what the rows that are left say of the row is what all of them say
abbrev pub invariant-loop-place : goal.invariant-loop-place
invariant-loop-place g l = value_in (drop l.place l.rows) l.key ≡ value_in l.rows l.key
