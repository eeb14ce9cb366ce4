use Rattle.std.proofs.Common.{◌≡◌, take}
use Rattle.iso8583.specs.Class.{is_alphanumeric}
use Rattle.iso8583.proofs.class.is_alphanumeric.Given as goal

-- as far as the text was looked at
abbrev pub invariant-loop-c : goal.invariant-loop-c
invariant-loop-c l = l.only ≡ is_alphanumeric (take l.c-index l.text)
