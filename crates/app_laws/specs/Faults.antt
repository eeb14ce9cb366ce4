-- Faults that say nothing of what the files of a run hold.
use Rattle.std.specs.Prelude.{◌⊎◌}
use Rattle.file_laws.specs.declared.batch_fault.BatchFault.TheVariants as batch
use Rattle.book_laws.specs.declared.json_fault.JsonFault.TheVariants as json
use Rattle.stm_journal_text.specs.declared.replay_fault.ReplayFault.TheVariants as replay
use Rattle.file_batch.specs.Words.{Failing, Names}
use Rattle.app_jobs.specs.declared.job_fault.JobFault.{JobFault}
use Rattle.app_jobs.specs.declared.job_fault.JobFault.TheVariants.{Unreadable, Book, Batch, Journal, OutOfMemory}

-- memory ran out, while a file was read or behind that
abbrev pub IsOutOfMemory : JobFault → Type 0
IsOutOfMemory OutOfMemory = Unit {0}
IsOutOfMemory (Book json.OutOfMemory) = Unit {0}
IsOutOfMemory (Batch batch.OutOfMemory) = Unit {0}
IsOutOfMemory (Journal replay.OutOfMemory) = Unit {0}
IsOutOfMemory _ = ⊥

-- a call failed, where it may
abbrev pub IsOfDevice : Type 0 → JobFault → Type 0
IsOfDevice may_fail Unreadable = may_fail
IsOfDevice may_fail (Batch batch.Device) = may_fail
IsOfDevice may_fail _ = ⊥

-- The fault is of nothing that a file holds, nor that one isn't there: memory ran out, or a call on a file failed, where it may.
abbrev pub IsOfNoFile : Type 0 → JobFault → Type 0
IsOfNoFile may_fail fault = IsOutOfMemory fault ⊎ IsOfDevice may_fail fault

-- of the files that an audit reads, a call on one may fail
abbrev pub MayNotBeRead : Failing → Names → Type 0
MayNotBeRead failing names =
    (failing.reading names.book ⊎ failing.reading names.batch) ⊎ (failing.reading names.replies ⊎ failing.reading names.new_book)
