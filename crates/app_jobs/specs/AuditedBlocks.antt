-- What an audit of block files finds.
use Rattle.std.specs.Prelude.{ℕ, List}
use Rattle.app_audit.specs.Blocks.{FindsInBlocks}
use Rattle.app_audit.specs.declared.block_audit.BlockAudit.{BlockAudit}
use Rattle.file_batch.specs.Words.{IsBlockFileOf, IsBlockReplyFileOf, IsThere, Names, replies_to_blocks, rows_after_blocks}
use Rattle.issuer_words.specs.Words.{Frame, ReplyBody, Rows}
use Rattle.app_jobs.specs.Decided.{Holding, IsBookOf}

-- Replies and new book, as the files hold them, are compared with what deciding these blocks on these rows, one after another, comes to.
pub record AreAnswersAudited (known : Type 0) (old : Holding) (names : Names) (rows : Rows) (blocks : List (List Frame)) (found : BlockAudit) : Type 0 where
  pub answers : List (List ReplyBody)
  pub rows_after_them : Rows
  pub replies_there : known → IsThere old names.replies
  pub after_there : known → IsThere old names.new_book
  pub answered : (bytes : List ℕ) → old names.replies bytes → IsBlockReplyFileOf bytes answers
  pub after : IsBookOf old names.new_book rows_after_them
  pub finds : FindsInBlocks answers rows_after_them (replies_to_blocks rows blocks) (rows_after_blocks rows blocks) found

-- Replies and new book, as the files hold them, are compared with what deciding the blocks on the book, one after another, comes to.
pub record AreBlocksAudited (known : Type 0) (old : Holding) (names : Names) (found : BlockAudit) : Type 0 where
  pub rows : Rows
  pub blocks : List (List Frame)
  pub book_there : known → IsThere old names.book
  pub blocks_there : known → IsThere old names.batch
  pub opening : IsBookOf old names.book rows
  pub read : (bytes : List ℕ) → old names.batch bytes → IsBlockFileOf bytes blocks
  pub answers : AreAnswersAudited known old names rows blocks found
