use Rattle.std.proofs.Common.{arith, rules}
use Rattle.iso8583.specs.Class.{IsPrintable}
use Rattle.iso8583.proofs.PaddedLemmas.{padded}
use Rattle.iso8583.proofs.printable_up_to.PrintableUpTo.of_text.Goals as goal

pub invariant_of-result : goal.invariant_of-result
invariant_of-result g c =
    rw c.copy_from_slice.ensures.after (padded IsPrintable g.row.MIN g.row.MAX c.args.text.now (omega arith) (omega arith) (search rules))
