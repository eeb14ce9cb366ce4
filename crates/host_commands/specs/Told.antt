-- What is told of the book or of the log of a host that isn't opened.
use Rattle.std.specs.Prelude.{◌⊎◌, ℕ, List}
use Rattle.file_devices.specs.Failing.{Failing}
use Rattle.file_devices.specs.Holding.{Holding}
use Rattle.file_laws.specs.declared.log_fault.LogFault.{LogFault}
use Rattle.file_laws.specs.declared.log_fault.LogFault.TheVariants as log
use Rattle.app_jobs.specs.declared.job_fault.JobFault.TheVariants as job
use Rattle.app_reasons.specs.Tells.{TellsOfOneBook, TellsOfWritten}
use Rattle.app_reasons.specs.Uses.{TellsOfLog}
use Rattle.app_reasons.specs.Words.{IsLineOf}
use Rattle.host_commands.specs.declared.opening_fault.OpeningFault.{OpeningFault}
use Rattle.host_commands.specs.declared.opening_fault.OpeningFault.TheVariants.{Unreadable, Book, Log, OutOfMemory}

-- the line tells of a log why it isn't read or, where a call on it failed, perhaps why it can't be written
abbrev pub TellsOfLogFile : Holding → Failing → LogFault → List ℕ → List ℕ → Type 0
TellsOfLogFile holds failing log.Failed name line = IsLineOf name (TellsOfLog holds log.Failed) line ⊎ IsLineOf name (TellsOfWritten failing job.Unwritable) line
TellsOfLogFile holds failing fault name line = IsLineOf name (TellsOfLog holds fault) line

-- the line tells of the book why it isn't read, or of the log why it isn't gone on with
abbrev pub TellsOfOpening : Holding → Failing → List ℕ → List ℕ → OpeningFault → List ℕ → Type 0
TellsOfOpening holds failing book log Unreadable line = IsLineOf book (TellsOfOneBook holds job.Unreadable) line
TellsOfOpening holds failing book log (Book fault) line = IsLineOf book (TellsOfOneBook holds (job.Book fault)) line
TellsOfOpening holds failing book log (Log fault) line = TellsOfLogFile holds failing fault log line
TellsOfOpening holds failing book log OutOfMemory line = ⊥
