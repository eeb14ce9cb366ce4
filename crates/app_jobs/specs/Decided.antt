-- What files hold after a batch was decided.
use Rattle.file_batch.specs.Words.{AreReplyBodies, IsBatchOf, IsThere, Names, replies_text}
pub use Rattle.file_devices.specs.Holding.{Holding}
use Rattle.std.specs.Prelude.{◌≡◌, ◌≢◌, ℕ, List, Ok}
use Rattle.file_batch.specs.Counting.{count_of}
use Rattle.file_batch.specs.declared.body_count.BodyCount.{BodyCount}
use Rattle.book_laws.specs.Reading.{IsAnswer, reading}
use Rattle.book_laws.specs.Text.{book_text}
use Rattle.issuer_words.specs.Words.{Frame, Rows, replies_to, rows_after}

-- the file of this name, where its bytes are known, is a sound book of these rows
abbrev pub IsBookOf : Holding → List ℕ → Rows → Type 0
IsBookOf old name rows = (bytes : List ℕ) → old name bytes → IsAnswer (reading bytes) (Ok rows)

-- The book and the batch that the files held were decided one after another. Where it is known what files hold, both were there, the file
-- of the new book holds the text of the book after that, which is read again as that book, and the file of the replies, where it is
-- another, theirs, which are such as a reply file can have. It has so many bodies.
pub record IsDecided (known : Type 0) (old new : Holding) (names : Names) (count : BodyCount) : Type 0 where
  pub rows : Rows
  pub frames : List Frame
  pub counted : count ≡ count_of frames
  pub book_there : known → IsThere old names.book
  pub batch_there : known → IsThere old names.batch
  pub opening : IsBookOf old names.book rows
  pub messages : (bytes : List ℕ) → old names.batch bytes → IsBatchOf bytes frames
  pub back : reading (book_text (rows_after rows frames)) ≡ Ok (rows_after rows frames)
  pub bodies : AreReplyBodies (replies_to rows frames)
  pub after : known → new names.new_book (book_text (rows_after rows frames))
  pub answered : known → names.replies ≢ names.new_book → new names.replies (replies_text (replies_to rows frames))

-- The batch of this name, so many bodies, was decided on these rows. Where it is known what files hold, it was there; replies and the
-- book after them were written to outputs of their own, whose bytes are known then. The book's text is read again as the book.
pub record IsAnswered {O : Type 0} (is_known_output : O → Type 0) (written : O → List ℕ) (known : Type 0) (old : Holding) (batch : List ℕ) (rows : Rows) (count : BodyCount) (replies new_book : O) : Type 0 where
  pub frames : List Frame
  pub counted : count ≡ count_of frames
  pub batch_there : known → IsThere old batch
  pub messages : (bytes : List ℕ) → old batch bytes → IsBatchOf bytes frames
  pub replied : known → is_known_output replies × (written replies ≡ replies_text (replies_to rows frames))
  pub back : reading (book_text (rows_after rows frames)) ≡ Ok (rows_after rows frames)
  pub bodies : AreReplyBodies (replies_to rows frames)
  pub booked : known → is_known_output new_book × (written new_book ≡ book_text (rows_after rows frames))
