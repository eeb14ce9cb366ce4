use Rattle.std.proofs.Common.{◌≡◌}
use Rattle.issuer_rows.specs.Rank.{digits_of, with_digits}
use Rattle.issuer_rows.proofs.ranked_row.with_digits.Given as goal

-- the number of the digits so far
abbrev pub invariant-loop-place : goal.invariant-loop-place
invariant-loop-place l = l.number ≡ with_digits l.fn.number (digits_of l.place l.text)
