use Rattle.std.proofs.Common.{◌≡◌, ◌≤◌, ◌+◌, ◌-◌, ◌*◌, ◌%◌, length, drop}
use Rattle.iso8583.specs.Luhn.{luhn_sum}
use Rattle.iso8583.proofs.luhn_test.luhn.Given as goal

-- whole pairs are left; the sum so far and that of the rest are the whole
abbrev pub invariant-loop-place : goal.invariant-loop-place
invariant-loop-place l = record {
  within : l.place ≤ length l.digits;
  pairs : (length l.digits - l.place) % 2 ≡ 0;
  bound : l.sum ≤ 9 * l.place;
  total : l.sum + luhn_sum (drop l.place l.digits) ≡ luhn_sum l.digits;
}

abbrev pub decreases-loop-place : goal.decreases-loop-place
decreases-loop-place l = length l.digits - l.place
