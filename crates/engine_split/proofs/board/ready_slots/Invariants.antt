use Rattle.std.proofs.Common.{◌≡◌, length}
use Rattle.engine_split.proofs.board.ready_slots.Given as goal

-- as many slots as turns
abbrev pub invariant-loop : goal.invariant-loop
invariant-loop l = length l.slots.items ≡ l.counter
