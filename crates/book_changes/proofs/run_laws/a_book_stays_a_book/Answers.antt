use Rattle.book_changes.proofs.Sound.{stays_sound}
use Rattle.book_changes.proofs.run_laws.a_book_stays_a_book.Goals as goal

pub returns : goal.returns
returns c rows frames = stays_sound frames rows
