-- What an audit of files finds.
use Rattle.std.specs.Prelude.{ℕ, List}
use Rattle.app_audit.specs.Finding.{Finds}
use Rattle.app_audit.specs.declared.audited.Audit.{Audit}
use Rattle.file_batch.specs.Words.{IsBatchOf, IsReplyFileOf, IsThere, Names}
use Rattle.issuer_words.specs.Words.{Frame, ReplyBody, Rows, replies_to, rows_after}
use Rattle.app_jobs.specs.Decided.{Holding, IsBookOf}

-- The files, as far as it is known what they hold, are there and hold this book and this batch.
pub record AreDecided (known : Type 0) (old : Holding) (names : Names) (rows : Rows) (frames : List Frame) : Type 0 where
  pub book_there : known → IsThere old names.book
  pub batch_there : known → IsThere old names.batch
  pub opening : IsBookOf old names.book rows
  pub messages : (bytes : List ℕ) → old names.batch bytes → IsBatchOf bytes frames

-- They hold these replies, and this book after them.
pub record AreAnswers (known : Type 0) (old : Holding) (names : Names) (answers : List ReplyBody) (rows_after_it : Rows) : Type 0 where
  pub replies_there : known → IsThere old names.replies
  pub after_there : known → IsThere old names.new_book
  pub answered : (bytes : List ℕ) → old names.replies bytes → IsReplyFileOf bytes answers
  pub after : IsBookOf old names.new_book rows_after_it

-- Both.
pub record AreHeld (known : Type 0) (old : Holding) (names : Names) (rows : Rows) (frames : List Frame) (answers : List ReplyBody) (rows_after_it : Rows) : Type 0 where
  pub decided : AreDecided known old names rows frames
  pub answered : AreAnswers known old names answers rows_after_it

-- Replies and new book, as the files hold them, are compared with what deciding the batch on the book comes to.
pub record IsAudited (known : Type 0) (old : Holding) (names : Names) (found : Audit) : Type 0 where
  pub rows : Rows
  pub frames : List Frame
  pub answers : List ReplyBody
  pub rows_after_it : Rows
  pub held : AreHeld known old names rows frames answers rows_after_it
  pub finds : Finds answers rows_after_it (replies_to rows frames) (rows_after rows frames) found
