-- What a log comes to that is decided again.
use Rattle.std.specs.Prelude.{◌≡◌, ℕ, List, ◌++◌}
use Rattle.issuer_words.specs.Words.{Frame, Rows, rows_after}
use Rattle.file_batch.specs.Counting.{count_of}
use Rattle.file_laws.specs.Blocks.{AreBlocksOfReplies, block_replies_text, replies_to_blocks}
use Rattle.log_replay.specs.Blocks.{AreBlocksOf}
use Rattle.log_replay.specs.Logged.{IsLogOfMessages}
use Rattle.log_replay.specs.declared.replayed.Replayed.{Replayed}

-- The messages of the log, whose book has this digest, were decided on these rows, one after another: so many, with the book after them. Their
-- replies, in blocks of 65,536, were written, and are such as a file can have.
pub record IsReplayed (known : Type 0) (digest bytes : List ℕ) (rows : Rows) (puts : Type 0) (had has : List ℕ) (replayed : Replayed) : Type 0 where
  pub messages : List Frame
  pub blocks : List (List Frame)
  pub logged : known → IsLogOfMessages digest bytes messages
  pub cut : AreBlocksOf messages blocks
  pub counted : replayed.count ≡ count_of messages
  pub book : replayed.book ≡ rows_after rows messages
  pub bodies : AreBlocksOfReplies (replies_to_blocks rows blocks)
  pub replied : puts → has ≡ had ++ block_replies_text (replies_to_blocks rows blocks)
