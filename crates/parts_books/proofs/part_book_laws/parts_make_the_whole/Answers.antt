use Rattle.parts_books.proofs.Whole.{the_whole}
use Rattle.parts_books.proofs.part_book_laws.parts_make_the_whole.Goals as goal

pub returns : goal.returns
returns c = the_whole
