-- Bytes of an answer that are read.
use Rattle.std.specs.Prelude.{◌≢◌, ℕ, List, Err, IsTrue}
use Rattle.book_laws.specs.Reading.{IsAnswer, reading}
use Rattle.file_batch.specs.Words.{FailsAsReplies, is_of_bytes}
use Rattle.file_laws.specs.declared.batch_fault.BatchFault.TheVariants.{Device}
use Rattle.app_jobs.specs.declared.job_fault.JobFault.{JobFault}
use Rattle.app_jobs.specs.declared.job_fault.JobFault.TheVariants.{Book, Batch}

-- the first fault of the replies, or of the book
abbrev pub IsAnswerBytesFault : List ℕ → List ℕ → JobFault → Type 0
IsAnswerBytesFault replies book (Batch fault) = (IsTrue (is_of_bytes fault) → FailsAsReplies replies fault) × (fault ≢ Device)
IsAnswerBytesFault replies book (Book fault) = IsAnswer (reading book) (Err fault)
IsAnswerBytesFault replies book _ = ⊥
