use Rattle.std.proofs.Common.{◌≡◌, ◌++◌, length, drop}
use Rattle.iso8583.specs.Number.{fixed_digits}
use Rattle.iso8583.proofs.number.fixed_digits.Given as goal

-- the digits still to come, and those that stand at the end, are all of them
abbrev pub invariant-loop-i : goal.invariant-loop-i
invariant-loop-i g l =
    (length l.text ≡ g.row.N) × (fixed_digits l.i l.rest ++ drop l.i l.text ≡ fixed_digits g.row.N l.number)
