use Rattle.std.proofs.Common.{◌≡◌, ◌++◌, take}
use Rattle.std.specs.List.{flat_map}
use Rattle.reason_text.specs.Lines.{written_line}
use Rattle.reason_text.proofs.lines.add_writes.Given as goal

-- the lines of the rows so far are appended
abbrev pub invariant-loop-index : goal.invariant-loop-index
invariant-loop-index l = l.text.items ≡ l.fn.text.items ++ flat_map written_line (take l.index l.writes)
