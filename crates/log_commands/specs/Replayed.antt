-- What a log comes to.
use Rattle.std.specs.Prelude.{◌≡◌, ℕ, List, Ok}
use Rattle.app_jobs.specs.Decided.{Holding, IsBookOf}
use Rattle.book_laws.specs.Reading.{reading}
use Rattle.book_laws.specs.Text.{book_text}
use Rattle.file_batch.specs.Counting.{count_of}
use Rattle.file_batch.specs.declared.body_count.BodyCount.{BodyCount}
use Rattle.file_batch.specs.Words.{AreBlocksOfReplies, IsThere, Names, block_replies_text, replies_to_blocks}
use Rattle.issuer_words.specs.Words.{Frame, Rows, rows_after}
use Rattle.log_replay.specs.Blocks.{AreBlocksOf}
use Rattle.log_replay.specs.Logged.{IsLogOfMessages, book_digest}
use Rattle.log_commands.specs.declared.written_log.WrittenLog.{WrittenLog}

-- The messages of a log that is open, where its bytes are known, were decided one after another on these rows, the log's book. Their replies,
-- in blocks of 65,536, and the book after them were written to outputs of their own, whose bytes are known where those of files are.
pub record IsAnswered {O : Type 0} (is_known_output : O → Type 0) (written : O → List ℕ) (known log_known : Type 0) (bytes : List ℕ) (rows : Rows) (answer : WrittenLog O) : Type 0 where
  pub messages : List Frame
  pub blocks : List (List Frame)
  pub logged : log_known → IsLogOfMessages (book_digest rows) bytes messages
  pub cut : AreBlocksOf messages blocks
  pub counted : answer.count ≡ count_of messages
  pub back : reading (book_text (rows_after rows messages)) ≡ Ok (rows_after rows messages)
  pub bodies : AreBlocksOfReplies (replies_to_blocks rows blocks)
  pub replied : known → is_known_output answer.replies × (written answer.replies ≡ block_replies_text (replies_to_blocks rows blocks))
  pub booked : known → is_known_output answer.new_book × (written answer.new_book ≡ book_text (rows_after rows messages))

-- The book that the file held is the opening book of the log. The log's messages were decided on it, one after another: so many. Where it is
-- known what files hold, the book was there; the file of the replies holds theirs, in blocks of 65,536, which are such as a file can have;
-- and that of the new book holds the text of the book after them, which is read again as that book.
pub record IsReplayed (known : Type 0) (old new held : Holding) (names : Names) (count : BodyCount) : Type 0 where
  pub rows : Rows
  pub messages : List Frame
  pub blocks : List (List Frame)
  pub book_there : known → IsThere old names.book
  pub opening : IsBookOf old names.book rows
  pub logged : (bytes : List ℕ) → held names.batch bytes → IsLogOfMessages (book_digest rows) bytes messages
  pub cut : AreBlocksOf messages blocks
  pub counted : count ≡ count_of messages
  pub back : reading (book_text (rows_after rows messages)) ≡ Ok (rows_after rows messages)
  pub bodies : AreBlocksOfReplies (replies_to_blocks rows blocks)
  pub after : known → new names.new_book (book_text (rows_after rows messages))
  pub answered : known → new names.replies (block_replies_text (replies_to_blocks rows blocks))
