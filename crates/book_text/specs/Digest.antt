-- The digest of a book.
use Rattle.std.specs.Prelude.{ℕ, List}
use Rattle.sha2.specs.Sha256.{sha256}
use Rattle.issuer_rows.specs.Fold.{Rows}
use Rattle.book_laws.specs.Text.{book_text}

-- the digest by which a log names its opening book
abbrev pub book_digest : Rows → List ℕ
book_digest book = sha256 (book_text book)
