use Rattle.std.proofs.Common.{arith}
use Rattle.message_text.specs.Givens.{texts_of}
use Rattle.message_text.proofs.Spelled.{bits_fit, small_bit}
use Rattle.message_text.proofs.bitmap.bitmap_of.Goals as goal

pub overflow_add-bitmap : goal.overflow_add-bitmap
overflow_add-bitmap c =
    let all = bits_fit (texts_of c.args.givens.now) in
    let small = small_bit c.in-Some.element.now c.bit-bitmap.result c.bit-bitmap.ensures in
    omega (arith, all, small, c.loop-element.invariant)

pub returns-clause-fits : goal.returns-clause-fits
returns-clause-fits c =
    let all = bits_fit (texts_of c.args.givens.now) in
    omega (arith, all, c.loop-element.invariant)
