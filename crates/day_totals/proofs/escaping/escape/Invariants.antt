use Rattle.std.proofs.Common.{◌≡◌, ◌++◌, take}
use Rattle.std.specs.List.{flat_map}
use Rattle.day_totals.specs.Escaped.{escaped_byte}
use Rattle.day_totals.proofs.escaping.escape.Given as goal

-- the text so far is appended
abbrev pub invariant-loop-byte : goal.invariant-loop-byte
invariant-loop-byte l = l.html.items ≡ l.fn.html.items ++ flat_map escaped_byte (take l.byte-index l.text)
