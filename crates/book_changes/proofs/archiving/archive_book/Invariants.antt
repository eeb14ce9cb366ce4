use Rattle.std.proofs.Common.{◌≡◌, Some}
use Rattle.std.specs.FinMap as map
use Rattle.std.specs.List.{AllByRecursion}
use Rattle.issuer_rows.specs.Book.{IsWithin}
use Rattle.book_changes.specs.Archive.{new_rows, old_rows}
use Rattle.book_changes.proofs.Splitting.{IsGoing, stays, moves}
use Rattle.book_changes.proofs.archiving.archive_book.Given as goal

-- the rows that are left go to both books, and are the book's
abbrev pub invariant-loop-key : goal.invariant-loop-key
invariant-loop-key l = record {
  new_book : IsGoing (stays l.date) l.key-iterator l.book l.new_book (new_rows l.date l.book);
  old : IsGoing (moves l.date) l.key-iterator l.book l.old (old_rows l.date l.book);
  within : IsWithin l.old l.book;
  there : AllByRecursion (λ row. map.get l.book row.0 ≡ Some row.1) l.key-iterator;
}
