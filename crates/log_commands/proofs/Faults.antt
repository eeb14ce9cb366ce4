-- Faults of the parts of a replay.
use Rattle.std.proofs.Common.{◌≡◌, ℕ, List, inl, inr, refl}
use Rattle.app_jobs.specs.Decided.{Holding, IsBookOf}
use Rattle.app_jobs.specs.Faults.{IsPuttingFault, MayBeRefused, MayNotBePut}
use Rattle.app_jobs.specs.JobFault.{fault_of_write}
use Rattle.app_jobs.specs.declared.job_fault.JobFault.{JobFault}
use Rattle.app_jobs.specs.declared.job_fault.JobFault.TheVariants as job
use Rattle.file_laws.specs.declared.batch_fault.BatchFault.TheVariants as batch
use Rattle.file_batch.specs.Words.{Failing, Names, WriteFault}
use Rattle.file_devices.specs.declared.write_fault.WriteFault.TheVariants as write
use Rattle.issuer_rows.specs.Fold.{Rows}
use Rattle.log_file.specs.declared.open_fault.OpenFault.{OpenFault}
use Rattle.log_file.specs.declared.open_fault.OpenFault.TheVariants as opening
use Rattle.file_laws.specs.declared.log_fault.LogFault.TheVariants as log
use Rattle.log_replay.specs.Faults.{IsMeasuringFault}
use Rattle.log_replay.specs.Faults.{IsReplayFault as IsDecidingFault}
use Rattle.log_replay.specs.Logged.{book_digest}
use Rattle.log_replay.specs.declared.replay_fault.ReplayFault.{ReplayFault}
use Rattle.log_replay.specs.declared.replay_fault.ReplayFault.TheVariants as replay
use Rattle.log_commands.specs.CommandFault.{fault_of_open, fault_of_replay}
use Rattle.log_commands.specs.Faults.{IsReplayFault, IsUnanswered, MayNotBeWritten}
use Rattle.log_commands.specs.declared.command_fault.CommandFault.{CommandFault}
use Rattle.log_commands.specs.declared.command_fault.CommandFault.TheVariants.{Job, Log}

-- a log that isn't measured isn't answered
pub unmeasured : (known may_fail : Type 0) (bytes : List ℕ) (failing : Failing) (names : Names) (rows : Rows) (e : ReplayFault)
    → IsMeasuringFault known may_fail (book_digest rows) bytes e → IsUnanswered known may_fail bytes failing names rows (fault_of_replay e)
unmeasured known may_fail bytes failing names rows (replay.Log log.Failed) is = λ k. is
unmeasured known may_fail bytes failing names rows (replay.Log log.OutOfMemory) is = tt
unmeasured known may_fail bytes failing names rows (replay.Log log.InUse) is = absurd is
unmeasured known may_fail bytes failing names rows (replay.Log log.NoLog) is = is
unmeasured known may_fail bytes failing names rows (replay.Log log.Version) is = is
unmeasured known may_fail bytes failing names rows (replay.Log log.OtherBook) is = is
unmeasured known may_fail bytes failing names rows (replay.Log (log.Broken n)) is = is
unmeasured known may_fail bytes failing names rows replay.TooMany is = is
unmeasured known may_fail bytes failing names rows replay.Unwritable is = absurd is
unmeasured known may_fail bytes failing names rows replay.OutOfMemory is = tt

-- a log that was measured and isn't decided again isn't answered
pub undecided : (known may_fail : Type 0) (bytes : List ℕ) (failing : Failing) (names : Names) (rows : Rows) (other may_not_write : Type 0) (e : ReplayFault)
    → (other → known → may_fail) → (may_not_write → failing.writing names.replies)
    → IsDecidingFault known may_fail (book_digest rows) bytes other may_not_write e → IsUnanswered known may_fail bytes failing names rows (fault_of_replay e)
undecided known may_fail bytes failing names rows other may_not_write (replay.Log log.Failed) none may (inl f) = λ k. f
undecided known may_fail bytes failing names rows other may_not_write (replay.Log log.Failed) none may (inr o) = none o
undecided known may_fail bytes failing names rows other may_not_write (replay.Log log.OutOfMemory) none may is = tt
undecided known may_fail bytes failing names rows other may_not_write (replay.Log log.InUse) none may is = absurd is
undecided known may_fail bytes failing names rows other may_not_write (replay.Log log.NoLog) none may is = is
undecided known may_fail bytes failing names rows other may_not_write (replay.Log log.Version) none may is = is
undecided known may_fail bytes failing names rows other may_not_write (replay.Log log.OtherBook) none may is = is
undecided known may_fail bytes failing names rows other may_not_write (replay.Log (log.Broken n)) none may is = is
undecided known may_fail bytes failing names rows other may_not_write replay.TooMany none may is = absurd is
undecided known may_fail bytes failing names rows other may_not_write replay.Unwritable none may is = inl (inl (may is))
undecided known may_fail bytes failing names rows other may_not_write replay.OutOfMemory none may is = tt

-- the file of the replies isn't made
pub unmade : (known may_fail : Type 0) (bytes : List ℕ) (failing : Failing) (names : Names) (rows : Rows) (e : WriteFault)
    → (e ≡ write.Unwritable → failing.refused names.replies) → IsUnanswered known may_fail bytes failing names rows (Job (fault_of_write e))
unmade known may_fail bytes failing names rows write.Unwritable refused = inl (inr (refused refl))
unmade known may_fail bytes failing names rows write.OutOfMemory refused = tt

-- the file of the new book isn't written
pub unwritten : (known may_fail : Type 0) (bytes : List ℕ) (failing : Failing) (names : Names) (rows : Rows) (e : JobFault)
    → IsPuttingFault (MayNotBePut failing names.new_book) e → IsUnanswered known may_fail bytes failing names rows (Job e)
unwritten known may_fail bytes failing names rows job.Unwritable is = inr is
unwritten known may_fail bytes failing names rows job.OutOfMemory is = tt
unwritten known may_fail bytes failing names rows _ is = absurd is

-- what was written isn't put in place
may_be : (failing : Failing) (names : Names) → MayBeRefused failing names → MayNotBeWritten failing names
may_be failing names (inl r) = inl (inr r)
may_be failing names (inr r) = inr (inr r)

module _ (held : Holding) (reading in_use : List ℕ → Type 0) where
  pub unput : (old : Holding) (failing : Failing) (names : Names) (rows : Rows) (e : JobFault) → IsBookOf old names.book rows
      → IsPuttingFault (MayBeRefused failing names) e → IsReplayFault held reading in_use old failing names (Job e)
  unput old failing names rows job.Unwritable opening is = inr (rows, opening, may_be failing names is)
  unput old failing names rows job.OutOfMemory opening is = inr (rows, opening, tt)
  unput old failing names rows _ opening is = absurd is

  -- a log that isn't opened
  pub unopened : (old : Holding) (failing : Failing) (names : Names) (rows : Rows) (e : OpenFault) → IsBookOf old names.book rows
      → (e ≡ opening.InUse → in_use names.batch) → (e ≡ opening.Refused → (bytes : List ℕ) → ¬ held names.batch bytes)
      → IsReplayFault held reading in_use old failing names (fault_of_open e)
  unopened old failing names rows opening.InUse book used absent = (rows, book, used refl)
  unopened old failing names rows opening.Refused book used absent = (rows, book, λ bytes h. absurd (absent refl bytes h))
  unopened old failing names rows opening.OutOfMemory book used absent = (rows, book, tt)

  -- a log that is open isn't answered
  pub unanswered : (old : Holding) (failing : Failing) (names : Names) (rows : Rows) (known may_fail : Type 0) (own : List ℕ) (e : CommandFault) → IsBookOf old names.book rows
      → ((bytes : List ℕ) → held names.batch bytes → known × (own ≡ bytes)) → (may_fail → reading names.batch)
      → IsUnanswered known may_fail own failing names rows e → IsReplayFault held reading in_use old failing names e
  unanswered old failing names rows known may_fail own (Log log.Failed) book has may is = (rows, book, λ bytes h. may (is (has bytes h).0))
  unanswered old failing names rows known may_fail own (Log log.OutOfMemory) book has may is = (rows, book, tt)
  unanswered old failing names rows known may_fail own (Log log.InUse) book has may is = absurd is
  unanswered old failing names rows known may_fail own (Log log.NoLog) book has may is = (rows, book, λ bytes h. rw (has bytes h).1 at (is (has bytes h).0))
  unanswered old failing names rows known may_fail own (Log log.Version) book has may is = (rows, book, λ bytes h. rw (has bytes h).1 at (is (has bytes h).0))
  unanswered old failing names rows known may_fail own (Log log.OtherBook) book has may is = (rows, book, λ bytes h. rw (has bytes h).1 at (is (has bytes h).0))
  unanswered old failing names rows known may_fail own (Log (log.Broken n)) book has may is = (rows, book, λ bytes h. rw (has bytes h).1 at (is (has bytes h).0))
  unanswered old failing names rows known may_fail own (Job (job.Batch batch.Blocks)) book has may is = inr (rows, book, λ bytes h. rw (has bytes h).1 at (is (has bytes h).0))
  unanswered old failing names rows known may_fail own (Job job.Unwritable) book has may is = inr (rows, book, is)
  unanswered old failing names rows known may_fail own (Job job.OutOfMemory) book has may is = inr (rows, book, tt)
  unanswered old failing names rows known may_fail own _ book has may is = absurd is
