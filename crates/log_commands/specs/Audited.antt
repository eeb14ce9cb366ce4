-- What an audit of a log finds, and why there is none.
use Rattle.std.specs.Prelude.{◌⊎◌, ℕ, List}
use Rattle.app_audit.specs.Blocks.{FindsInBlocks}
use Rattle.app_audit.specs.declared.block_audit.BlockAudit.{BlockAudit}
use Rattle.app_audit.specs.declared.block_audit.BlockAudit.TheVariants.{Same, CountDiffers, ReplyDiffers, BookDiffers}
use Rattle.app_jobs.specs.BlockFaults.{IsBlockAnswersFault}
use Rattle.app_jobs.specs.Decided.{Holding, IsBookOf}
use Rattle.app_jobs.specs.Faults.{IsBookFault}
use Rattle.app_jobs.specs.declared.job_fault.JobFault.{JobFault}
use Rattle.app_jobs.specs.declared.job_fault.JobFault.TheVariants as job
use Rattle.file_batch.specs.Words.{Failing, IsBlockReplyFileOf, IsThere, Names, replies_to_blocks}
use Rattle.file_laws.specs.declared.batch_fault.BatchFault.TheVariants as batch
use Rattle.issuer_words.specs.Words.{Frame, ReplyBody, Rows, rows_after}
use Rattle.file_laws.specs.declared.log_fault.LogFault.TheVariants as log
use Rattle.log_replay.specs.Blocks.{AreBlocksOf}
use Rattle.log_replay.specs.Faults.{IsReadingFault}
use Rattle.log_replay.specs.Logged.{IsLogOfMessages, book_digest}
use Rattle.log_commands.specs.Faults.{HasTooMany, IsClaimFault, IsLogFault}
use Rattle.log_commands.specs.declared.command_fault.CommandFault.{CommandFault}
use Rattle.log_commands.specs.declared.command_fault.CommandFault.TheVariants.{Job, Log}

-- The replies and the new book that files hold are compared with what deciding the messages of the log on its book, which the file held, one
-- after another, comes to: their replies in blocks of 65,536, and the book after them.
pub record IsAudited (known : Type 0) (old held : Holding) (names : Names) (found : BlockAudit) : Type 0 where
  pub rows : Rows
  pub messages : List Frame
  pub blocks : List (List Frame)
  pub answers : List (List ReplyBody)
  pub after : Rows
  pub book_there : known → IsThere old names.book
  pub replies_there : known → IsThere old names.replies
  pub after_there : known → IsThere old names.new_book
  pub opening : IsBookOf old names.book rows
  pub logged : (bytes : List ℕ) → held names.batch bytes → IsLogOfMessages (book_digest rows) bytes messages
  pub cut : AreBlocksOf messages blocks
  pub answered : (bytes : List ℕ) → old names.replies bytes → IsBlockReplyFileOf bytes answers
  pub closing : IsBookOf old names.new_book after
  pub finds : FindsInBlocks answers after (replies_to_blocks rows blocks) (rows_after rows messages) found

-- 0 where nothing differs, else 3
abbrev pub status_of_audit : BlockAudit → ℕ
status_of_audit Same = 0
status_of_audit CountDiffers = 3
status_of_audit (ReplyDiffers block index) = 3
status_of_audit (BookDiffers key) = 3

-- A log that is open isn't read, on a book of these rows: its fault, or it has too many messages; or memory ran out.
abbrev pub IsUnread : Type 0 → Type 0 → List ℕ → Rows → CommandFault → Type 0
IsUnread known may_fail bytes rows (Log log.Failed) = known → may_fail
IsUnread known may_fail bytes rows (Log fault) = IsReadingFault known may_fail (book_digest rows) bytes fault
IsUnread known may_fail bytes rows (Job (job.Batch batch.Blocks)) = known → HasTooMany (book_digest rows) bytes
IsUnread known may_fail bytes rows (Job job.OutOfMemory) = Unit {0}
IsUnread known may_fail bytes rows _ = ⊥

-- over logs by their names: what they have, of which a call that reads may fail, and which a host may have
module _ (held : Holding) (reading in_use : List ℕ → Type 0) where
  -- behind a book of these rows the log isn't read: its fault, or too many messages, or memory ran out
  abbrev pub IsLogUnread : Names → Rows → CommandFault → Type 0
  IsLogUnread names rows (Log fault) = IsLogFault held reading in_use names.batch rows fault
  IsLogUnread names rows (Job (job.Batch batch.Blocks)) = (bytes : List ℕ) → held names.batch bytes → HasTooMany (book_digest rows) bytes
  IsLogUnread names rows (Job job.OutOfMemory) = Unit {0}
  IsLogUnread names rows _ = ⊥

  -- some job's fault that is this one
  abbrev pub IsJobFault : (JobFault → Type 0) → CommandFault → Type 0
  IsJobFault is (Job fault) = is fault
  IsJobFault is _ = ⊥

  -- Why an audit of a log finds nothing: a file is in use; or the first fault of the book, of the log, of the replies or of the new book, where
  -- those before it in this order have none; or a call on that file failed; or memory ran out.
  abbrev pub IsAuditRefusal : Holding → Failing → Names → CommandFault → Type 0
  IsAuditRefusal old failing names fault =
      IsClaimFault (failing.in_use names.book ⊎ (failing.in_use names.replies ⊎ failing.in_use names.new_book)) fault
      ⊎ (IsJobFault (IsBookFault old failing names.book) fault
      ⊎ ((rows : Rows) × IsBookOf old names.book rows × (IsLogUnread names rows fault
      ⊎ ((messages : List Frame) × ((bytes : List ℕ) → held names.batch bytes → IsLogOfMessages (book_digest rows) bytes messages)
      × IsJobFault (IsBlockAnswersFault old failing names) fault))))
