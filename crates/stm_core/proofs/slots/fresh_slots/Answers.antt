use Rattle.std.proofs.Common.{◌≤◌, ◌+◌, ℕ, length, ap, subst, sym, ◌∙◌}
use Rattle.stm_core.proofs.Parts.{slots_more}
use Rattle.stm_core.proofs.slots.fresh_slots.Goals as goal

pub loop-frame-preserved : goal.loop-frame-preserved
loop-frame-preserved c = record {
  made = slots_more c.args.frames.now c.loop-frame.frame-index c.loop-frame.slots.items _ c.new.result c.loop-frame-test.true c.loop-frame.invariant.made c.new.ensures c.push_reserved.ensures.items;
  len = c.push_reserved.ensures.len ∙ ap (λ (n : ℕ). n + 1) c.loop-frame.invariant.len;
  room = subst (λ (n : ℕ). length c.args.frames.now ≤ n) (sym c.push_reserved.ensures.capacity) c.loop-frame.invariant.room;
}
