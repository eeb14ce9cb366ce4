use Rattle.std.proofs.Common.{drop}
use Rattle.std.specs.FinMap as map
use Rattle.issuer_rows.specs.Book.{IsWithin}
use Rattle.parts_books.proofs.Going.{IsGoing}
use Rattle.parts_books.specs.PartBooks.{is_for, rows_for}
use Rattle.parts_books.proofs.making_parts.book_for.Given as goal

-- the rows for the messages from this one on are to be put
abbrev pub invariant-loop-frame : goal.invariant-loop-frame
invariant-loop-frame l = record {
  left : IsGoing (is_for l.book) (drop l.frame-index l.frames) (map.get l.book) l.own (rows_for l.book l.frames);
  within : IsWithin l.own l.book;
}
