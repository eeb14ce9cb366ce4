use Rattle.std.proofs.Common.{arith, get_or}
use Rattle.iso8583.proofs.NumberLaws.{number_step, number_fits, digit_bounds, is_digit-at}
use Rattle.iso8583.proofs.number.number_of.Goals as goal

pub overflow_mul-n : goal.overflow_mul-n
overflow_mul-n c =
    let fits = number_fits c.loop-c.c-index c.loop-c.n 0 (omega arith) c.loop-c.invariant.1 (omega arith) in
    omega (arith, fits)

pub overflow_add-n : goal.overflow_add-n
overflow_add-n c =
    let at = digit_bounds (get_or c.args.text.now c.loop-c.c-index 0) (is_digit-at c.args.text.now c.loop-c.c-index c.requires.digits c.loop-c-test.true) in
    let fits = number_fits c.loop-c.c-index c.loop-c.n c.from.result (omega arith) c.loop-c.invariant.1 (omega (arith, at.1)) in
    omega (arith, fits)

pub loop-c-preserved : goal.loop-c-preserved
loop-c-preserved c =
    rw c.from.ensures (number_step c.args.text.now c.loop-c.c-index c.loop-c.n c.loop-c-test.true c.requires.digits c.loop-c.invariant.0 c.loop-c.invariant.1)
