use Rattle.std.proofs.Common.{◌≡◌, take}
use Rattle.iso8583.specs.Class.{is_printable}
use Rattle.iso8583.proofs.class.is_printable.Given as goal

-- as far as the text was looked at
abbrev pub invariant-loop-c : goal.invariant-loop-c
invariant-loop-c l = l.only ≡ is_printable (take l.c-index l.text)
