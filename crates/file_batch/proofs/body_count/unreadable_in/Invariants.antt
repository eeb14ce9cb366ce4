use Rattle.std.proofs.Common.{◌≡◌, count_by, take}
use Rattle.file_batch.specs.Counting.{is_unreadable}
use Rattle.file_batch.proofs.body_count.unreadable_in.Given as goal

-- so many of those that were looked at are no message
abbrev pub invariant-loop-frame : goal.invariant-loop-frame
invariant-loop-frame l = l.unreadable ≡ count_by is_unreadable (take l.frame-index l.frames)
