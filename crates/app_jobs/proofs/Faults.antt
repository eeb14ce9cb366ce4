-- Faults of the parts of a job.
use Rattle.std.proofs.Common.{◌≡◌, ◌⊎◌, inl, inr, refl}
use Rattle.std.specs.Prelude.{Result, Err, IsTrue}
use Rattle.file_batch.specs.Words.{BatchFault, Failing, Names, WriteFault, is_of_bytes}
use Rattle.file_laws.specs.declared.batch_fault.BatchFault.TheVariants.{Device}
use Rattle.file_devices.specs.declared.write_fault.WriteFault.TheVariants as write
use Rattle.app_jobs.specs.Decided.{Holding}
use Rattle.app_jobs.specs.Faults.{IsWritingBothFault, IsAnsweringFault, IsWritingFault, IsPuttingFault}
use Rattle.app_jobs.specs.JobFault.{fault_of_write}
use Rattle.app_jobs.specs.declared.job_fault.JobFault.{JobFault}
use Rattle.app_jobs.specs.declared.job_fault.JobFault.TheVariants.{Batch, Unwritable, OutOfMemory}

-- a file that isn't put in its place
pub unput_file : (may_fail : Type 0) (e : WriteFault) → (e ≡ write.Unwritable → may_fail) → IsPuttingFault may_fail (fault_of_write e)
unput_file may_fail write.Unwritable h = h refl
unput_file may_fail write.OutOfMemory h = tt

-- a file that isn't made
pub unmade_file : (may_fail refused : Type 0) (e : WriteFault) → (e ≡ write.Unwritable → refused) → IsWritingFault may_fail refused (fault_of_write e)
unmade_file may_fail refused write.Unwritable h = h refl
unmade_file may_fail refused write.OutOfMemory h = tt

-- why a file is not put may be one of several reasons
pub putting_more : (may_fail others : Type 0) (fault : JobFault) → (may_fail → others) → IsPuttingFault may_fail fault → IsPuttingFault others fault
putting_more may_fail others Unwritable more h = more h
putting_more may_fail others OutOfMemory more h = tt
putting_more may_fail others _ more h = absurd h

-- the same of why a file is not written
pub writing_more : (may_fail others refused refusing : Type 0) (fault : JobFault) → (may_fail → others) → (refused → refusing)
    → IsWritingFault may_fail refused fault → IsWritingFault others refusing fault
writing_more may_fail others refused refusing (Batch fault) more further h = (h.0, λ d. more (h.1 d))
writing_more may_fail others refused refusing Unwritable more further h = further h
writing_more may_fail others refused refusing OutOfMemory more further h = tt
writing_more may_fail others refused refusing _ more further h = absurd h

-- the same of why what a batch comes to is not put
pub answering_more : (old : Holding) (failing : Failing) (names : Names) (may_fail others : Type 0) (fault : JobFault) → (may_fail → others)
    → IsAnsweringFault old failing names may_fail fault → IsAnsweringFault old failing names others fault
answering_more old failing names may_fail others fault more (inl h) = inl h
answering_more old failing names may_fail others fault more (inr (some, h)) = inr (some, putting_more may_fail others fault more h)

-- why replies or the book behind them are not written, where it is known why the call that writes the replies fails
pub unwritten : {P : Type 0} (step : P → Result (Unit {0}) BatchFault → P → Type 0) (old new : P) (replies_may book_may : Type 0) (fault : JobFault)
    → ((e : BatchFault) → step old (Err e) new → (¬ IsTrue (is_of_bytes e)) × (e ≡ Device → replies_may))
    → IsWritingBothFault step old new book_may fault → IsWritingFault replies_may ⊥ fault ⊎ IsPuttingFault book_may fault
unwritten step old new replies_may book_may fault failed (inl called) = rw called.1 (inl (failed called.0 called.2))
unwritten step old new replies_may book_may fault failed (inr h) = inr h
