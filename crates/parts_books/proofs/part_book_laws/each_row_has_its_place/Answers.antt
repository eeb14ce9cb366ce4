use Rattle.parts_books.proofs.Places.{have_the_rows}
use Rattle.parts_books.proofs.part_book_laws.each_row_has_its_place.Goals as goal

pub returns : goal.returns
returns c = have_the_rows
