use Rattle.std.proofs.Common.{◌↔◌}
use Rattle.std.specs.FinMap as map
use Rattle.book_laws.specs.CheckBook.{AreRowsInRange}
use Rattle.book_laws.proofs.checking.are_rows_in_range.Given as goal

abbrev pub invariant-loop-key : goal.invariant-loop-key
invariant-loop-key l = AreRowsInRange l.book l.key-iterator ↔ AreRowsInRange l.book (map.entries l.book)
