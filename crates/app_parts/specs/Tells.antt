-- What is told behind a fault of `part`, `decide` or `join`: of one file of the folder, or of the command.
use Rattle.std.specs.Prelude.{◌≡◌, ◌⊎◌, ℕ, List, ◌++◌, codes, decimal}
use Rattle.app_jobs.specs.declared.job_fault.JobFault.{JobFault}
use Rattle.app_jobs.specs.declared.job_fault.JobFault.TheVariants as job
use Rattle.app_parts_folder.specs.Joining as joining
use Rattle.app_parts_folder.specs.Names.{part_name, plan_name, rest_name}
use Rattle.app_parts_folder.specs.Parting as parting
use Rattle.app_parts_folder.specs.declared.part_fault.PartFault.{PartFault}
use Rattle.app_parts_folder.specs.declared.part_fault.PartFault.TheVariants.{OtherBook, OtherBatch, OtherPlan, OtherFiles, Unreadable}
use Rattle.app_parts_folder.specs.declared.part_file.PartFile.{PartFile}
use Rattle.app_parts_folder.specs.declared.part_file.PartFile.TheVariants as file
use Rattle.app_parts_folder.specs.declared.parts_fault.PartsFault.{PartsFault}
use Rattle.app_parts_folder.specs.declared.parts_fault.PartsFault.TheVariants.{OneFile, Job, NoPlan, NoPart, OtherRest, Replies, Part}
use Rattle.app_reasons.specs.OneLine.{shown}
use Rattle.app_reasons.specs.Tells.{TellsOfOne, TellsOfOneBook, TellsOfWritten}
use Rattle.app_reasons.specs.Words.{IsLineOf}
use Rattle.app_reasons.specs.declared.file_kind.FileKind.TheVariants as kind
use Rattle.file_batch.specs.Words.{Failing, Holding}

-- the line has the name of a file and these words
abbrev pub SaysOf : List ℕ → List ℕ → List ℕ → Type 0
SaysOf name words line = line ≡ shown (name ++ (codes ": " ++ words))

-- what is said of a file that another one names by its digest
abbrev pub other_digest : List ℕ
other_digest = codes "its digest isn't that of the plan"

-- how many parts a plan has
abbrev pub parts_words : ℕ → List ℕ
parts_words count = codes "it has " ++ (decimal count ++ codes " parts, numbered from 0")

-- why the file of this name can't be read
abbrev pub TellsUnread : Holding → List ℕ → List ℕ → Type 0
TellsUnread holds name line = IsLineOf name (TellsOfOneBook holds job.Unreadable) line

-- why a file of this part can't be written
abbrev pub TellsOfPartWritten : Failing → List ℕ → ℕ → JobFault → List ℕ → Type 0
TellsOfPartWritten failing folder part fault line = (file : PartFile) × IsLineOf (part_name folder part file) (TellsOfWritten failing fault) line

-- why a file of the folder can't be written
abbrev pub TellsOfFolderWritten : Failing → List ℕ → JobFault → List ℕ → Type 0
TellsOfFolderWritten failing folder fault line =
    ((part : ℕ) × TellsOfPartWritten failing folder part fault line)
    ⊎ (IsLineOf (rest_name folder) (TellsOfWritten failing fault) line ⊎ IsLineOf (plan_name folder) (TellsOfWritten failing fault) line)

-- of a part's file that isn't the one that is to be there
abbrev pub TellsOfOther : List ℕ → ℕ → PartFault → List ℕ → Type 0
TellsOfOther folder part OtherBook line = SaysOf (part_name folder part file.Book) other_digest line
TellsOfOther folder part OtherBatch line = SaysOf (part_name folder part file.Batch) other_digest line
TellsOfOther folder part OtherPlan line = SaysOf (part_name folder part file.Decided) (codes "it is of another plan, or of another part") line
TellsOfOther folder part OtherFiles line = (file : PartFile) × SaysOf (part_name folder part file) (codes "it isn't what was written when the part was decided") line
TellsOfOther folder part Unreadable line = ⊥

-- of a folder whose plan is none, or whose files aren't those of the plan
abbrev pub TellsOfFolder : List ℕ → PartsFault → List ℕ → Type 0
TellsOfFolder folder NoPlan line = SaysOf (plan_name folder) (codes "it is no plan of parts") line
TellsOfFolder folder NoPart line = (count : ℕ) × SaysOf (plan_name folder) (parts_words count) line
TellsOfFolder folder OtherRest line = SaysOf (rest_name folder) other_digest line
TellsOfFolder folder Replies line = SaysOf (plan_name folder) (codes "its parts haven't as many replies as it has messages") line
TellsOfFolder folder (Part part fault) line = TellsOfOther folder part fault line
TellsOfFolder folder (OneFile role other) line = ⊥
TellsOfFolder folder (Job fault) line = ⊥

-- Behind a fault of `part`: why the book or the batch isn't read, or a file of the folder isn't written.
abbrev pub TellsOfParting : Holding → Failing → parting.Names → PartsFault → List ℕ → Type 0
TellsOfParting holds failing names (Job fault) line =
    IsLineOf names.book (TellsOfOneBook holds fault) line
    ⊎ (IsLineOf names.batch (TellsOfOne holds kind.Batch fault) line ⊎ TellsOfFolderWritten failing names.folder fault line)
TellsOfParting holds failing names fault line = ⊥

-- of the plan that isn't read, of the part's book or batch, or of what is written
abbrev pub TellsOfDecidingJob : Holding → Failing → List ℕ → ℕ → JobFault → List ℕ → Type 0
TellsOfDecidingJob holds failing folder part job.Unreadable line = TellsUnread holds (plan_name folder) line
TellsOfDecidingJob holds failing folder part (job.Book fault) line = IsLineOf (part_name folder part file.Book) (TellsOfOneBook holds (job.Book fault)) line
TellsOfDecidingJob holds failing folder part (job.Batch fault) line = IsLineOf (part_name folder part file.Batch) (TellsOfOne holds kind.Batch (job.Batch fault)) line
TellsOfDecidingJob holds failing folder part fault line = TellsOfPartWritten failing folder part fault line

-- Behind a fault of `decide`: so, or of a file of the part that isn't read, or of the folder.
abbrev pub TellsOfDeciding : Holding → Failing → List ℕ → ℕ → PartsFault → List ℕ → Type 0
TellsOfDeciding holds failing folder part (Job fault) line = TellsOfDecidingJob holds failing folder part fault line
TellsOfDeciding holds failing folder part (Part own Unreadable) line = (file : PartFile) × TellsUnread holds (part_name folder own file) line
TellsOfDeciding holds failing folder part fault line = TellsOfFolder folder fault line

-- of the new book of a part, which has the fault
abbrev pub TellsOfNewBook : Holding → List ℕ → JobFault → List ℕ → Type 0
TellsOfNewBook holds folder fault line = (part : ℕ) × IsLineOf (part_name folder part file.NewBook) (TellsOfOneBook holds fault) line

-- of the rest, or of a part's new book, which has the fault
abbrev pub TellsOfRestOrNewBook : Holding → List ℕ → JobFault → List ℕ → Type 0
TellsOfRestOrNewBook holds folder fault line = IsLineOf (rest_name folder) (TellsOfOneBook holds fault) line ⊎ TellsOfNewBook holds folder fault line

-- of the replies of a part, which have the fault
abbrev pub TellsOfReplies : Holding → List ℕ → JobFault → List ℕ → Type 0
TellsOfReplies holds folder fault line = (part : ℕ) × IsLineOf (part_name folder part file.Replies) (TellsOfOne holds kind.Replies fault) line

-- of the replies or the new book that can't be written
abbrev pub TellsOfJoined : Failing → joining.Names → JobFault → List ℕ → Type 0
TellsOfJoined failing names fault line = IsLineOf names.replies (TellsOfWritten failing fault) line ⊎ IsLineOf names.new_book (TellsOfWritten failing fault) line

-- of a file of what a part comes to: the part isn't decided yet, or the file can't be read
abbrev pub TellsOfMissing : Holding → List ℕ → List ℕ → Type 0
TellsOfMissing holds name line = SaysOf name (codes "no such file or directory: the part isn't decided yet") line ⊎ TellsUnread holds name line

abbrev pub TellsOfUndecided : Holding → List ℕ → ℕ → List ℕ → Type 0
TellsOfUndecided holds folder part line = (file : PartFile) × TellsOfMissing holds (part_name folder part file) line

-- of the plan or the rest that isn't read, of a book or replies, or of what is written
abbrev pub TellsOfJoiningJob : Holding → Failing → joining.Names → JobFault → List ℕ → Type 0
TellsOfJoiningJob holds failing names job.Unreadable line = TellsUnread holds (plan_name names.folder) line ⊎ TellsUnread holds (rest_name names.folder) line
TellsOfJoiningJob holds failing names (job.Book fault) line = TellsOfRestOrNewBook holds names.folder (job.Book fault) line
TellsOfJoiningJob holds failing names (job.Batch fault) line = TellsOfReplies holds names.folder (job.Batch fault) line
TellsOfJoiningJob holds failing names fault line = TellsOfJoined failing names fault line

-- Behind a fault of `join`: so, or of a part that isn't decided, or of the folder.
abbrev pub TellsOfJoining : Holding → Failing → joining.Names → PartsFault → List ℕ → Type 0
TellsOfJoining holds failing names (Job fault) line = TellsOfJoiningJob holds failing names fault line
TellsOfJoining holds failing names (Part part Unreadable) line = TellsOfUndecided holds names.folder part line
TellsOfJoining holds failing names fault line = TellsOfFolder names.folder fault line
