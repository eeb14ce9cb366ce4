-- Why a book isn't archived.
use Rattle.std.specs.Prelude.{◌≡◌, ◌≢◌, ◌⊎◌, ℕ, List}
use Rattle.file_devices.specs.Failing.{Failing}
use Rattle.app_jobs.specs.Decided.{Holding}
use Rattle.app_jobs.specs.Faults.{IsBookFault, IsPuttingFault, IsSomeBook, MayNotBePut}
use Rattle.app_jobs.specs.declared.job_fault.JobFault.{JobFault}
use Rattle.app_jobs.specs.declared.job_fault.JobFault.TheVariants.{InUse, OutOfMemory}
use Rattle.app_parts.specs.declared.archive_fault.ArchiveFault.{ArchiveFault}
use Rattle.app_parts.specs.declared.archive_fault.ArchiveFault.TheVariants.{Job, OneFile}
use Rattle.app_parts.specs.declared.archive_names.ArchiveNames.{ArchiveNames}

-- the names, as texts, of the book, of the new book and of the old one
pub record Names : Type 0 where
  pub book : List ℕ
  pub new_book : List ℕ
  pub old : List ℕ

abbrev pub names_of : ArchiveNames → Names
names_of names = record { book = names.book.now; new_book = names.new_book.now; old = names.old.now }

-- what is written are two files, of which neither is the book
pub record AreApart (names : Names) : Type 0 where
  pub new_book : names.new_book ≢ names.book
  pub old : names.old ≢ names.book
  pub both : names.new_book ≢ names.old

-- two of these names are one
abbrev pub HaveOneFile : Names → Type 0
HaveOneFile names = (names.new_book ≡ names.book) ⊎ ((names.old ≡ names.book) ⊎ (names.new_book ≡ names.old))

-- Names are refused: so it is, or memory ran out.
abbrev pub IsApartFault : Type 0 → ArchiveFault → Type 0
IsApartFault one_file (OneFile first second) = one_file
IsApartFault one_file (Job OutOfMemory) = Unit {0}
IsApartFault one_file _ = ⊥

-- A file is not claimed: another run may have claimed it, or memory ran out.
abbrev pub IsClaimFault : Type 0 → JobFault → Type 0
IsClaimFault in_use InUse = in_use
IsClaimFault in_use OutOfMemory = Unit {0}
IsClaimFault in_use _ = ⊥

-- one of both files that are written may have been claimed by another run
abbrev pub MayBeInUse : Failing → Names → Type 0
MayBeInUse failing names = failing.in_use names.new_book ⊎ failing.in_use names.old

-- one of both may not be written, or not be put in its place
abbrev pub MayNotBeArchived : Failing → Names → Type 0
MayNotBeArchived failing names = MayNotBePut failing names.new_book ⊎ MayNotBePut failing names.old

-- Why a book isn't archived: names that have to be of two files are of one, where that is known; a file that is written is in use; the first
-- fault of the book; or, behind a sound book, a file isn't written or not put in its place; or memory ran out.
abbrev pub IsArchiveFault : Type 0 → Holding → Failing → Names → ArchiveFault → Type 0
IsArchiveFault known holds failing names (OneFile first second) = known → HaveOneFile names
IsArchiveFault known holds failing names (Job fault) =
    IsClaimFault (MayBeInUse failing names) fault
    ⊎ (IsBookFault holds failing names.book fault ⊎ (IsSomeBook holds names.book × IsPuttingFault (MayNotBeArchived failing names) fault))

-- the exit status of a fault: 2 for names of one file, else 1
abbrev pub status_of : ArchiveFault → ℕ
status_of (OneFile first second) = 2
status_of (Job fault) = 1
