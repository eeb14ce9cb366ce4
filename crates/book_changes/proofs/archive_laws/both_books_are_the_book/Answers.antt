use Rattle.book_changes.proofs.Joined.{parted}
use Rattle.book_changes.proofs.archive_laws.both_books_are_the_book.Goals as goal

pub returns : goal.returns
returns c = parted
