-- Faults of jobs: what they are of, and their numbers there.
use Rattle.std.specs.Prelude.{ℕ, List, codes}
use Rattle.file_batch.specs.Words.{ClaimFault, ReadFault, WriteFault, number_of_fault}
use Rattle.book_laws.specs.JsonFault.{number_of_json_fault}
use Rattle.file_devices.specs.declared.claim_fault.ClaimFault.TheVariants as claim
use Rattle.file_devices.specs.declared.read_fault.ReadFault.TheVariants as read
use Rattle.file_devices.specs.declared.write_fault.WriteFault.TheVariants as write
use Rattle.file_laws.specs.declared.batch_fault.BatchFault.TheVariants as batch
use Rattle.file_listing.specs.declared.listing_fault.ListingFault.{ListingFault}
use Rattle.file_listing.specs.declared.listing_fault.ListingFault.TheVariants as text
use Rattle.stm_journal_text.specs.ReplayFault.{number_of_replay_fault}
use Rattle.app_jobs.specs.declared.job_fault.JobFault.{JobFault}
use Rattle.app_jobs.specs.declared.job_fault.JobFault.TheVariants.{Unreadable, Unwritable, InUse, Book, Batch, Journal, Text, Bodies, OutOfMemory}

abbrev pub part_of : JobFault → List ℕ
part_of Unreadable = codes "file"
part_of Unwritable = codes "file"
part_of InUse = codes "file"
part_of (Book fault) = codes "book"
part_of (Batch fault) = codes "batch"
part_of (Journal fault) = codes "journal"
part_of (Text line) = codes "text"
part_of (Bodies count) = codes "unreadable"
part_of OutOfMemory = codes "memory"

abbrev pub number_of : JobFault → ℕ
number_of Unreadable = 1
number_of Unwritable = 2
number_of InUse = 3
number_of (Book fault) = number_of_json_fault fault
number_of (Batch fault) = number_of_fault fault
number_of (Journal fault) = number_of_replay_fault fault
number_of (Text line) = line
number_of (Bodies count) = count
number_of OutOfMemory = 1

-- a file that isn't read is unreadable, or memory ran out
abbrev pub fault_of_read : ReadFault → JobFault
fault_of_read read.Unreadable = Unreadable
fault_of_read read.OutOfMemory = OutOfMemory

-- a file that isn't made or written is unwritable, or memory ran out
abbrev pub fault_of_write : WriteFault → JobFault
fault_of_write write.Unwritable = Unwritable
fault_of_write write.OutOfMemory = OutOfMemory

-- a file that isn't claimed is in use, or memory ran out
abbrev pub fault_of_claim : ClaimFault → JobFault
fault_of_claim claim.InUse = InUse
fault_of_claim claim.OutOfMemory = OutOfMemory

-- a text of bodies has a wrong line or too many bodies, or memory ran out
abbrev pub fault_of_text : ListingFault → JobFault
fault_of_text (text.Line line) = Text line
fault_of_text text.Count = Batch batch.Count
fault_of_text text.OutOfMemory = OutOfMemory
