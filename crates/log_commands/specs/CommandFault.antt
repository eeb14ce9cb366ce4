-- Faults of commands on a log: their exit statuses, and those of what they are made of.
use Rattle.std.specs.Prelude.{ℕ}
use Rattle.app_jobs.specs.declared.job_fault.JobFault.TheVariants as job
use Rattle.file_laws.specs.declared.batch_fault.BatchFault.TheVariants as batch
use Rattle.log_file.specs.declared.open_fault.OpenFault.{OpenFault}
use Rattle.log_file.specs.declared.open_fault.OpenFault.TheVariants as opening
use Rattle.file_laws.specs.declared.log_fault.LogFault.TheVariants as log
use Rattle.log_replay.specs.declared.replay_fault.ReplayFault.{ReplayFault}
use Rattle.log_replay.specs.declared.replay_fault.ReplayFault.TheVariants as replay
use Rattle.log_commands.specs.declared.command_fault.CommandFault.{CommandFault}
use Rattle.log_commands.specs.declared.command_fault.CommandFault.TheVariants.{Usage, Job, Log}

-- 2 for names that are of one file, else 1
abbrev pub status_of : CommandFault → ℕ
status_of (Usage text) = 2
status_of (Job fault) = 1
status_of (Log fault) = 1

-- a log that isn't opened: a host has it, it can't be opened, or memory ran out
abbrev pub fault_of_open : OpenFault → CommandFault
fault_of_open opening.InUse = Log log.InUse
fault_of_open opening.Refused = Log log.Failed
fault_of_open opening.OutOfMemory = Log log.OutOfMemory

-- a log that isn't decided again; more blocks than a file can have are a fault of the replies
abbrev pub fault_of_replay : ReplayFault → CommandFault
fault_of_replay (replay.Log fault) = Log fault
fault_of_replay replay.TooMany = Job (job.Batch batch.Blocks)
fault_of_replay replay.Unwritable = Job job.Unwritable
fault_of_replay replay.OutOfMemory = Job job.OutOfMemory
