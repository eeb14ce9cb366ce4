-- Why a batch isn't put in parts.
use Rattle.std.specs.Prelude.{◌≡◌, ◌≢◌, ℕ, List, Err, IsTrue}
use Rattle.file_batch.specs.Words.{batch_magic, bodies_of, is_of_bytes}
use Rattle.file_laws.specs.declared.batch_fault.BatchFault.TheVariants.{Device}
use Rattle.app_jobs.specs.declared.job_fault.JobFault.{JobFault}
use Rattle.app_jobs.specs.declared.job_fault.JobFault.TheVariants.{Batch, OutOfMemory}

-- the bytes have this fault as a batch, if it is one of bytes, and it is no device's; or memory ran out
abbrev pub IsBatchFaultOf : List ℕ → JobFault → Type 0
IsBatchFaultOf bytes (Batch fault) = (IsTrue (is_of_bytes fault) → bodies_of batch_magic bytes ≡ Err fault) × (fault ≢ Device)
IsBatchFaultOf bytes OutOfMemory = Unit {0}
IsBatchFaultOf bytes _ = ⊥
