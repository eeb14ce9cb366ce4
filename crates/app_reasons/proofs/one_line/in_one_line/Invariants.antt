use Rattle.std.proofs.Common.{◌≡◌, take}
use Rattle.std.specs.List.{flat_map}
use Rattle.app_reasons.specs.OneLine.{shown_byte}
use Rattle.app_reasons.proofs.one_line.in_one_line.Given as goal

-- the bytes so far are shown
abbrev pub invariant-loop-byte : goal.invariant-loop-byte
invariant-loop-byte l = l.line.items ≡ flat_map shown_byte (take l.byte-index l.text)
