use Rattle.std.proofs.Common.{◌≡◌, drop, map}
use Rattle.engine_parts.specs.TwoBooks.{joined_all}
use Rattle.parts_books.specs.PartBooks.{joined_books, own_rows}
use Rattle.parts_books.proofs.joining_books.join_books.Given as goal

-- the books from this one on are left
abbrev pub invariant-loop-book : goal.invariant-loop-book
invariant-loop-book l = joined_all l.whole (map (own_rows l.rest) (drop l.book-index l.books)) ≡ joined_books l.rest l.books
