-- What is read from the files of a run.
use Rattle.std.specs.Prelude.{◌≡◌, List, Ok}
use Rattle.issuer_words.specs.Words.{Frame, ReplyBody, Rows, replies_to, rows_after}
use Rattle.file_batch.specs.Words.{AreBlocksOfReplies, AreReplyBodies, IsBlockReplyFileOf, IsReplyFileOf, block_replies_text, replies_text, replies_to_blocks, rows_after_blocks}
use Rattle.book_laws.specs.Reading.{reading, IsAnswer}
use Rattle.book_laws.specs.Text.{book_text}

-- the text of this book is read again as the book, as that of every book is which a program holds
abbrev pub IsReadAgain : Rows → Type 0
IsReadAgain book = reading (book_text book) ≡ Ok book

-- this book is read from the text of that one
abbrev pub IsReadFrom : Rows → Rows → Type 0
IsReadFrom book read = IsAnswer (reading (book_text book)) (Ok read)

-- the replies and the book of a run are such as are read again
pub record AreReadAgain (rows : Rows) (frames : List Frame) : Type 0 where
  pub replies : AreReplyBodies (replies_to rows frames)
  pub book : IsReadAgain (rows_after rows frames)

-- these answers and this book are read from the files of a run
pub record AreReadFrom (rows : Rows) (frames : List Frame) (answers : List ReplyBody) (after : Rows) : Type 0 where
  pub replies : IsReplyFileOf (replies_text (replies_to rows frames)) answers
  pub book : IsReadFrom (rows_after rows frames) after

-- the same of blocks
pub record AreBlocksReadAgain (rows : Rows) (blocks : List (List Frame)) : Type 0 where
  pub replies : AreBlocksOfReplies (replies_to_blocks rows blocks)
  pub book : IsReadAgain (rows_after_blocks rows blocks)

pub record AreBlocksReadFrom (rows : Rows) (blocks : List (List Frame)) (answers : List (List ReplyBody)) (after : Rows) : Type 0 where
  pub replies : IsBlockReplyFileOf (block_replies_text (replies_to_blocks rows blocks)) answers
  pub book : IsReadFrom (rows_after_blocks rows blocks) after
