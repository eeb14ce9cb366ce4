use Rattle.std.proofs.Common.{length, ap, arith}
use Rattle.file_laws.proofs.Payloads.{length-framed}
use Rattle.log_file.proofs.appending.make_entry.Goals as goal

pub overflow_cast-size : goal.overflow_cast-size
overflow_cast-size c = omega (arith, ap length c.framed-framed.ensures.text, (length-framed c.args.bodies.now c.framed-framed.ensures.are.1).1, c.framed-framed.ensures.are.0)

pub overflow_add-size : goal.overflow_add-size
overflow_add-size c = omega (arith, ap length c.framed-framed.ensures.text, (length-framed c.args.bodies.now c.framed-framed.ensures.are.1).1, c.framed-framed.ensures.are.0)

pub overflow_sub-size : goal.overflow_sub-size
overflow_sub-size c = omega (arith, ap length c.framed-framed.ensures.text, (length-framed c.args.bodies.now c.framed-framed.ensures.are.1).1, c.framed-framed.ensures.are.0)
