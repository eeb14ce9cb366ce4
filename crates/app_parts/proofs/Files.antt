-- Faults of what is written.
use Rattle.std.proofs.Common.{inr}
use Rattle.file_devices.specs.Failing.{Failing}
use Rattle.issuer_rows.specs.Fold.{Rows}
use Rattle.app_jobs.proofs.Faults.{putting_more}
use Rattle.app_jobs.specs.Decided.{Holding, IsBookOf}
use Rattle.app_jobs.specs.Faults.{IsPuttingFault}
use Rattle.app_jobs.specs.declared.job_fault.JobFault.{JobFault}
use Rattle.app_parts.specs.Faults.{Names, IsArchiveFault, MayNotBeArchived}
use Rattle.app_parts.specs.declared.archive_fault.ArchiveFault.TheVariants.{Job}

-- behind a book, a file isn't written or put in its place
pub unwritten : (known : Type 0) (old : Holding) (failing : Failing) (names : Names) (rows : Rows) (fault : JobFault) (may_fail : Type 0) → IsBookOf old names.book rows → (may_fail → MayNotBeArchived failing names) → IsPuttingFault may_fail fault → IsArchiveFault known old failing names (Job fault)
unwritten known old failing names rows fault may_fail opening more is = inr (inr ((rows, opening), putting_more may_fail (MayNotBeArchived failing names) fault more is))
