-- What a batch leaves of a book.
use Rattle.std.specs.Prelude.{List}
use Rattle.book_laws.specs.CheckBook.{IsSound}
use Rattle.issuer_words.specs.Words.{Frame, Rows, rows_after}

-- a book with which nothing is wrong is one behind these bodies too
abbrev pub StaysSound : Rows → List Frame → Type 0
StaysSound rows frames = IsSound rows → IsSound (rows_after rows frames)
