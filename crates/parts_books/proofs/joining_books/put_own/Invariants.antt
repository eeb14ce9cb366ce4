use Rattle.std.proofs.Common.{◌≡◌, Some}
use Rattle.std.specs.FinMap as map
use Rattle.std.specs.List.{AllByRecursion}
use Rattle.engine_parts.specs.TwoBooks.{joined}
use Rattle.parts_books.specs.PartBooks.{own_rows}
use Rattle.parts_books.proofs.Going.{IsGoing, is_own}
use Rattle.parts_books.proofs.joining_books.put_own.Given as goal

-- the rows that are left go to the whole book, where they are the part's own, and are the part's
abbrev pub invariant-loop-key : goal.invariant-loop-key
invariant-loop-key l = record {
  left : IsGoing (is_own l.rest l.book) l.key-iterator (map.get l.book) l.whole (joined l.fn.whole (own_rows l.rest l.book));
  there : AllByRecursion (λ row. map.get l.book row.0 ≡ Some row.1) l.key-iterator;
}
