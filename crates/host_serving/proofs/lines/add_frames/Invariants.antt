use Rattle.std.proofs.Common.{◌≡◌, ◌++◌, drop}
use Rattle.host_serving.specs.Tally.{counted}
use Rattle.host_serving.specs.Lines.{unreadable_lines}
use Rattle.host_serving.proofs.lines.add_frames.Given as goal

-- the lines so far and those of the frames that are left are all; so is what is counted
abbrev pub invariant-loop-frame : goal.invariant-loop-frame
invariant-loop-frame l = record {
  lines : l.text.items ++ unreadable_lines l.tally (drop l.frame-index l.frames) ≡ l.fn.text.items ++ unreadable_lines l.fn.before l.frames;
  tally : counted l.tally (drop l.frame-index l.frames) ≡ counted l.fn.before l.frames;
}
