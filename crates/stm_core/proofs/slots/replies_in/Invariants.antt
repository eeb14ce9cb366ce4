use Rattle.std.proofs.Common.{◌≡◌, take, filter_map}
use Rattle.stm_core.proofs.slots.replies_in.Given as goal

abbrev pub invariant-loop-slot : goal.invariant-loop-slot
invariant-loop-slot l = l.replies.items ≡ filter_map (λ kept. kept.reply) (take l.slot-index l.slots)
