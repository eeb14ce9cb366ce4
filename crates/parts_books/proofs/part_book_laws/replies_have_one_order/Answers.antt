use Rattle.parts_books.proofs.Arrival.{one_order}
use Rattle.parts_books.proofs.part_book_laws.replies_have_one_order.Goals as goal

pub returns : goal.returns
returns c = one_order
