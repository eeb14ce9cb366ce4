use Rattle.book_json.specs.ReadsOn.{IsFurther}
use Rattle.book_json.proofs.book_reader.BookReader.enter.Given as goal

abbrev pub invariant-loop : goal.invariant-loop
invariant-loop l = IsFurther l.fn.self l.self
