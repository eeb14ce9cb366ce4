-- What is not put in its place is not written.
use Rattle.app_jobs.specs.Faults.{IsPuttingFault, IsWritingFault}
use Rattle.app_jobs.specs.declared.job_fault.JobFault.{JobFault}
use Rattle.app_jobs.specs.declared.job_fault.JobFault.TheVariants.{Unwritable, OutOfMemory}

pub unput_is_unwritten : (may_fail refused : Type 0) (fault : JobFault) → IsPuttingFault refused fault → IsWritingFault may_fail refused fault
unput_is_unwritten may_fail refused Unwritable h = h
unput_is_unwritten may_fail refused OutOfMemory h = tt
unput_is_unwritten may_fail refused _ h = absurd h
