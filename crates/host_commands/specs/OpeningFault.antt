-- Why a host isn't opened.
use Rattle.std.specs.Prelude.{◌≡◌, ⊤, ℕ, List, Ok, Err, IsTrue}
use Rattle.issuer_rows.specs.Fold.{Rows}
use Rattle.book_laws.specs.Reading.{reading, IsAnswer}
use Rattle.file_devices.specs.declared.read_fault.ReadFault.{ReadFault}
use Rattle.file_devices.specs.declared.read_fault.ReadFault.TheVariants as read
use Rattle.file_laws.specs.LogFault.{is_of_bytes}
use Rattle.file_laws.specs.LogReading.{IsReading}
use Rattle.file_laws.specs.declared.log_fault.LogFault.TheVariants as log_fault
use Rattle.log_file.specs.declared.open_fault.OpenFault.{OpenFault}
use Rattle.log_file.specs.declared.open_fault.OpenFault.TheVariants as open_fault
use Rattle.host_commands.specs.Opening.{book_digest}
use Rattle.host_commands.specs.declared.opening_fault.OpeningFault.{OpeningFault}
use Rattle.host_commands.specs.declared.opening_fault.OpeningFault.TheVariants.{Unreadable, Book, Log, OutOfMemory}

abbrev pub fault_of_read : ReadFault → OpeningFault
fault_of_read read.Unreadable = Unreadable
fault_of_read read.OutOfMemory = OutOfMemory

abbrev pub fault_of_open : OpenFault → OpeningFault
fault_of_open open_fault.InUse = Log log_fault.InUse
fault_of_open open_fault.Refused = Log log_fault.Failed
fault_of_open open_fault.OutOfMemory = Log log_fault.OutOfMemory

-- the fault is that of these bytes as the log of the book that has this digest, where they are known, or that of a call on its file; or out
-- of memory
abbrev pub IsLogFault : Type 0 → List ℕ → List ℕ → OpeningFault → Type 0
IsLogFault known digest bytes (Log fault) = known → IsTrue (is_of_bytes fault) → IsReading digest bytes (Err fault)
IsLogFault known digest bytes OutOfMemory = ⊤
IsLogFault known digest bytes fault = ⊥

-- Why a host isn't opened over a book's file with this text and a log with these bytes: a call on the book's file failed; the first fault
-- of the text as a book; the fault of the bytes as the log of that book, or of a call on its file; or out of memory.
abbrev pub IsOpeningFault : Type 0 → List ℕ → Type 0 → List ℕ → OpeningFault → Type 0
IsOpeningFault may_fail text known log Unreadable = may_fail
IsOpeningFault may_fail text known log (Book fault) = IsAnswer (reading text) (Err fault)
IsOpeningFault may_fail text known log (Log fault) = (book : Rows) × (reading text ≡ Ok book) × IsLogFault known (book_digest book) log (Log fault)
IsOpeningFault may_fail text known log OutOfMemory = ⊤
