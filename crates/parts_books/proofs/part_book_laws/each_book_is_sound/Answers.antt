use Rattle.parts_books.proofs.SoundParts.{parts_sound}
use Rattle.parts_books.proofs.part_book_laws.each_book_is_sound.Goals as goal

pub returns : goal.returns
returns c = parts_sound
