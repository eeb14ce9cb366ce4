use Rattle.book_changes.proofs.SoundBooks.{both_sound}
use Rattle.book_changes.proofs.archive_laws.both_books_are_sound.Goals as goal

pub returns : goal.returns
returns c = both_sound
