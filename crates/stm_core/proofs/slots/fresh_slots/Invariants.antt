use Rattle.std.proofs.Common.{◌≡◌, ◌≤◌, length, map, take, vec_len, vec_capacity}
use Rattle.stm_core_laws.specs.State.{empty_slot}
use Rattle.stm_core.proofs.slots.fresh_slots.Given as goal

abbrev pub invariant-loop-frame : goal.invariant-loop-frame
invariant-loop-frame l = record {
  made : l.slots.items ≡ map (λ _. empty_slot) (take l.frame-index l.frames);
  len : vec_len l.slots ≡ l.frame-index;
  room : length l.frames ≤ vec_capacity l.slots;
}
