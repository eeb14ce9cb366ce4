use Rattle.std.proofs.Common.{ℕ, ◌+◌, ◌-◌, ◌/◌, arith}
use Rattle.stm_memory.proofs.ChainLaws.{nearer_below, nearer_above}
use Rattle.stm_memory.proofs.Digits.{halved}
use Rattle.stm_memory.proofs.chain.count_below.Goals as goal

pub overflow_add-comparisons : goal.overflow_add-comparisons
overflow_add-comparisons c = let few = (c.loop-low.invariant.digits 64 c.loop-low.invariant.few).0 in omega arith

pub loop-low-preserved-then-links-middle : goal.loop-low-preserved-then-links-middle
loop-low-preserved-then-links-middle c =
    let low = c.loop-low.low in
    let high = c.loop-low.high in
    let l = c.loop-low-test.true in
    let middle : ℕ = low + (high - low) / 2 in
    let within = c.loop-low.invariant.within in
    record {
      ordered = omega arith;
      within = within;
      few = c.loop-low.invariant.few;
      below = nearer_below c.args.links.now middle c.args.index c.index-links-middle.result c.requires (omega arith) c.if-links-middle.true;
      above = c.loop-low.invariant.above;
      digits = λ n many.
          let d = c.loop-low.invariant.digits n many in
          halved (high - low) (high - (middle + 1)) n c.loop-low.comparisons (omega arith) (omega arith) d.0 d.1;
    }

pub loop-low-preserved : goal.loop-low-preserved
loop-low-preserved c =
    let low = c.loop-low.low in
    let high = c.loop-low.high in
    let l = c.loop-low-test.true in
    let middle : ℕ = low + (high - low) / 2 in
    let within = c.loop-low.invariant.within in
    record {
      ordered = omega arith;
      within = omega arith;
      few = c.loop-low.invariant.few;
      below = c.loop-low.invariant.below;
      above = nearer_above c.args.links.now middle c.args.index c.index-links-middle.result c.requires c.if-links-middle.false;
      digits = λ n many.
          let d = c.loop-low.invariant.digits n many in
          halved (high - low) (middle - low) n c.loop-low.comparisons (omega arith) (omega arith) d.0 d.1;
    }
