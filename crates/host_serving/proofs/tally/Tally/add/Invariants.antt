use Rattle.std.proofs.Common.{◌≡◌, drop}
use Rattle.host_serving.specs.Tally.{counted}
use Rattle.host_serving.proofs.tally.Tally.add.Given as goal

-- those that are left, counted from here on, come to what all of them come to
abbrev pub invariant-loop-frame : goal.invariant-loop-frame
invariant-loop-frame l = counted l.self (drop l.frame-index l.frames) ≡ counted l.fn.self l.frames
