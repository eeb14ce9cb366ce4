use Rattle.std.proofs.Common.{arith}
use Rattle.std.proofs.lemmas.Grind.{common_steps}
use Rattle.iso8583.proofs.NumberLaws.{fixed_step, is_digits-fixed_digits, all_written}
use Rattle.iso8583.proofs.number.fixed_digits.Goals as goal

pub loop-i-preserved : goal.loop-i-preserved
loop-i-preserved g c = (
  grind (arith, common_steps),
  fixed_step c.loop-i.text _ c.loop-i.i c.loop-i.rest c.loop-i-test.true (omega arith) c.loop-i.invariant.1,
)

pub returns-clause-digits : goal.returns-clause-digits
returns-clause-digits g c =
    all_written c.loop-i.text _ c.loop-i.i c.loop-i.rest c.loop-i-test.false c.loop-i.invariant.1

pub returns-clause-class : goal.returns-clause-class
returns-clause-class g c =
    rw (all_written c.loop-i.text _ c.loop-i.i c.loop-i.rest c.loop-i-test.false c.loop-i.invariant.1) (is_digits-fixed_digits g.row.N c.args.number)
