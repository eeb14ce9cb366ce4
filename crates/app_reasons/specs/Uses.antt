-- What is told of a file by what a command does with it, and of a log.
use Rattle.std.specs.Prelude.{◌≡◌, ◌⊎◌, ℕ, List, [], ◌∷◌}
use Rattle.file_devices.specs.Failing.{Failing}
use Rattle.file_devices.specs.Holding.{Holding}
use Rattle.file_laws.specs.declared.batch_fault.BatchFault.TheVariants.{Blocks}
use Rattle.file_laws.specs.declared.log_fault.LogFault.{LogFault}
use Rattle.file_laws.specs.declared.log_fault.LogFault.TheVariants as log
use Rattle.app_jobs.specs.declared.job_fault.JobFault.{JobFault}
use Rattle.app_jobs.specs.declared.job_fault.JobFault.TheVariants as job
use Rattle.app_reasons.specs.Tells.{TellsOfOne, TellsOfOneBook, TellsOfWritten, TellsUnread}
use Rattle.app_reasons.specs.Words.{IsLineOf}
use Rattle.app_reasons.specs.declared.reason.Reason.{Reason}
use Rattle.app_reasons.specs.declared.reason.Reason.TheVariants.{InUse, Log, TooManyMessages}
use Rattle.app_reasons.specs.declared.used_file.FileUse.{FileUse}
use Rattle.app_reasons.specs.declared.used_file.FileUse.TheVariants as used
use Rattle.app_reasons.specs.declared.used_file.UsedFile.{UsedFile}

-- Why a file is not used so: read, the host says it or it is its first fault; claimed, another run has it; written, that too, or the host
-- says it; of a log, that it has too many messages for blocks.
abbrev pub TellsOfUse : Holding → Failing → FileUse → JobFault → List ℕ → Reason → Type 0
TellsOfUse holds failing used.Book fault name reason = TellsOfOneBook holds fault name reason
TellsOfUse holds failing (used.Bodies kind) fault name reason = TellsOfOne holds kind fault name reason
TellsOfUse holds failing used.Shared job.InUse name reason = reason ≡ InUse
TellsOfUse holds failing used.Shared fault name reason = ⊥
TellsOfUse holds failing used.Written fault name reason = TellsOfWritten failing fault name reason
TellsOfUse holds failing used.Log (job.Batch Blocks) name reason = reason ≡ TooManyMessages
TellsOfUse holds failing used.Log fault name reason = ⊥

abbrev pub TellsOfOneUsed : Holding → Failing → UsedFile → JobFault → Reason → Type 0
TellsOfOneUsed holds failing file fault reason = TellsOfUse holds failing file.used fault file.name.now reason

-- the line tells of one of these files why it is not used so
abbrev pub TellsOfUsed : Holding → Failing → List UsedFile → JobFault → List ℕ → Type 0
TellsOfUsed holds failing [] fault line = ⊥
TellsOfUsed holds failing (file ∷ files) fault line =
    IsLineOf file.name.now (TellsOfUse holds failing file.used fault) line ⊎ TellsOfUsed holds failing files fault line

-- why a log is not read: where a call on it failed, the host says it; else it is this fault
abbrev pub TellsOfLog : Holding → LogFault → List ℕ → Reason → Type 0
TellsOfLog holds log.Failed name reason = TellsUnread holds name reason
TellsOfLog holds log.OutOfMemory name reason = ⊥
TellsOfLog holds fault name reason = reason ≡ Log (record { 0 = fault })
