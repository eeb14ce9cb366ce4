use Rattle.book_json.specs.ReadsOn.{IsFurther}
use Rattle.book_json.proofs.shares.Shares.add_each.Given as goal

abbrev pub invariant-loop-number : goal.invariant-loop-number
invariant-loop-number g l = IsFurther l.fn.reader l.reader
