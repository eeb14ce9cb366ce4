use Rattle.parts_books.proofs.Enough.{are_enough}
use Rattle.parts_books.proofs.part_book_laws.rows_are_enough.Goals as goal

pub returns : goal.returns
returns c = are_enough
