use Rattle.std.proofs.Common.{◌-◌, ◌≤◌, length}
use Rattle.link_frames.specs.Link.{AreSoMany}
use Rattle.host_serving.specs.Turn.{HasTaken}
use Rattle.host_serving.proofs.taking.take_turn.Given as goal

-- what came in the frames so far, and the frames that are left
abbrev pub invariant-loop : goal.invariant-loop
invariant-loop l = record {
  bodies : length l.turn.bodies ≤ l.counter;
  between : l.turn.between ≤ l.counter;
  left : AreSoMany (l.count - l.counter) l.rest;
  so_far : HasTaken l.frames l.rest l.turn;
}
