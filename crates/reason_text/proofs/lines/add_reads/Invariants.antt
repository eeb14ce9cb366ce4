use Rattle.std.proofs.Common.{◌≡◌, ◌++◌, take}
use Rattle.std.specs.List.{flat_map}
use Rattle.reason_text.specs.Lines.{read_line}
use Rattle.reason_text.proofs.lines.add_reads.Given as goal

-- the lines of the rows so far are appended
abbrev pub invariant-loop-index : goal.invariant-loop-index
invariant-loop-index l = l.text.items ≡ l.fn.text.items ++ flat_map read_line (take l.index l.reads)
