-- Why a command on a log is not done.
use Rattle.std.specs.Prelude.{◌≡◌, ◌⊎◌, ◌<◌, ℕ, List, Err}
use Rattle.app_jobs.specs.Decided.{Holding, IsBookOf}
use Rattle.app_jobs.specs.Faults.{IsBookFault, MayNotBePut}
use Rattle.app_jobs.specs.declared.job_fault.JobFault.{JobFault}
use Rattle.app_jobs.specs.declared.job_fault.JobFault.TheVariants as job
use Rattle.file_laws.specs.declared.batch_fault.BatchFault.TheVariants as batch
use Rattle.file_batch.specs.Words.{Failing, Names}
use Rattle.issuer_rows.specs.Fold.{Rows}
use Rattle.file_laws.specs.LogReading.{IsReading}
use Rattle.file_laws.specs.declared.log_fault.LogFault.{LogFault}
use Rattle.file_laws.specs.declared.log_fault.LogFault.TheVariants as log
use Rattle.log_replay.specs.Faults.{IsReadingFault}
use Rattle.log_replay.specs.Logged.{IsLogOfSize, book_digest}
use Rattle.log_commands.specs.Names.{HasOneFile, log_apart}
use Rattle.log_commands.specs.declared.command_fault.CommandFault.{CommandFault}
use Rattle.log_commands.specs.declared.command_fault.CommandFault.TheVariants.{Usage, Job, Log}

-- Names are refused: of some pair both are one, or memory ran out.
abbrev pub IsApartFault : Type 0 → List (List ℕ × List ℕ) → CommandFault → Type 0
IsApartFault known pairs (Usage text) = known → HasOneFile pairs
IsApartFault known pairs (Job job.OutOfMemory) = Unit {0}
IsApartFault known pairs _ = ⊥

-- the same of one pair
abbrev pub IsPairFault : Type 0 → List ℕ → List ℕ → CommandFault → Type 0
IsPairFault known first second (Usage text) = known → first ≡ second
IsPairFault known first second (Job job.OutOfMemory) = Unit {0}
IsPairFault known first second _ = ⊥

-- A file is not claimed: another run may have claimed it, or memory ran out.
abbrev pub IsClaimFault : Type 0 → CommandFault → Type 0
IsClaimFault in_use (Job job.InUse) = in_use
IsClaimFault in_use (Job job.OutOfMemory) = Unit {0}
IsClaimFault in_use _ = ⊥

-- the log has more messages than a file of blocks can have replies: 65,536,000
abbrev pub HasTooMany : List ℕ → List ℕ → Type 0
HasTooMany digest bytes = (count : ℕ) × (torn : ℕ) × IsLogOfSize digest bytes count torn × (65536000 < count)

-- a file that is written may not be, or not be put in its place
abbrev pub MayNotBeWritten : Failing → Names → Type 0
MayNotBeWritten failing names = MayNotBePut failing names.replies ⊎ MayNotBePut failing names.new_book

-- A log that is open isn't answered, on a book of these rows: it isn't read, or has too many messages; a file of what it comes to isn't
-- written; or memory ran out.
abbrev pub IsUnanswered : Type 0 → Type 0 → List ℕ → Failing → Names → Rows → CommandFault → Type 0
IsUnanswered known may_fail bytes failing names rows (Log log.Failed) = known → may_fail
IsUnanswered known may_fail bytes failing names rows (Log fault) = IsReadingFault known may_fail (book_digest rows) bytes fault
IsUnanswered known may_fail bytes failing names rows (Job (job.Batch batch.Blocks)) = known → HasTooMany (book_digest rows) bytes
IsUnanswered known may_fail bytes failing names rows (Job job.Unwritable) = MayNotBeWritten failing names
IsUnanswered known may_fail bytes failing names rows (Job job.OutOfMemory) = Unit {0}
IsUnanswered known may_fail bytes failing names rows _ = ⊥

-- over logs by their names: what they have, of which a call that reads may fail, and which a host may have
module _ (held : Holding) (reading in_use : List ℕ → Type 0) where
  -- The log of this name isn't read, on a book of these rows: a host may have it; it isn't there, can't be read, or a call on it may fail;
  -- its first fault as the log of that book; or memory ran out.
  abbrev pub IsLogFault : List ℕ → Rows → LogFault → Type 0
  IsLogFault name rows log.InUse = in_use name
  IsLogFault name rows log.Failed = (bytes : List ℕ) → held name bytes → reading name
  IsLogFault name rows log.OutOfMemory = Unit {0}
  IsLogFault name rows fault = (bytes : List ℕ) → held name bytes → IsReading (book_digest rows) bytes (Err fault)

  -- behind a book and a log, what the log comes to isn't written or put in place, or memory ran out
  abbrev pub IsAnsweringFault : Failing → Names → Rows → JobFault → Type 0
  IsAnsweringFault failing names rows (job.Batch batch.Blocks) = (bytes : List ℕ) → held names.batch bytes → HasTooMany (book_digest rows) bytes
  IsAnsweringFault failing names rows job.Unwritable = MayNotBeWritten failing names
  IsAnsweringFault failing names rows job.OutOfMemory = Unit {0}
  IsAnsweringFault failing names rows _ = ⊥

  -- Why a log is not decided again, its files claimed: the first fault of the book; behind a sound one, that of the log; or that what it
  -- comes to isn't written.
  abbrev pub IsReplayFault : Holding → Failing → Names → CommandFault → Type 0
  IsReplayFault old failing names (Log fault) = (rows : Rows) × IsBookOf old names.book rows × IsLogFault names.batch rows fault
  IsReplayFault old failing names (Job fault) =
      IsBookFault old failing names.book fault ⊎ ((rows : Rows) × IsBookOf old names.book rows × IsAnsweringFault failing names rows fault)
  IsReplayFault old failing names (Usage text) = ⊥

  -- Why a log is not decided again: names that have to be of two files are of one; a file that is written is in use; or one of these.
  abbrev pub IsReplayRefusal : Type 0 → Holding → Failing → Names → CommandFault → Type 0
  IsReplayRefusal known old failing names fault =
      IsApartFault known (log_apart names) fault
      ⊎ (IsClaimFault (failing.in_use names.replies ⊎ failing.in_use names.new_book) fault ⊎ IsReplayFault old failing names fault)
