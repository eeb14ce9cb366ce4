use Rattle.std.proofs.Common.{◌≡◌, ◌+◌, ◌-◌, ℕ, length}
use Rattle.stm_memory.specs.Memory.{list_at}
use Rattle.stm_memory.proofs.mv_memory.reserve_list.Given as goal

abbrev pub invariant-loop-alloc : goal.invariant-loop-alloc
invariant-loop-alloc l = (i : ℕ) → (list_at l.lists.items i).numbers ≡ (list_at l.fn.lists.items i).numbers

abbrev pub decreases-loop-alloc : goal.decreases-loop-alloc
decreases-loop-alloc l = (l.index + 1) - length l.lists.items
