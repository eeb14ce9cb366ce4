-- Why a batch isn't put in parts, a part isn't decided, and parts aren't put together.
use Rattle.std.specs.Prelude.{◌≡◌, ◌≢◌, ◌⊎◌, ◌≤◌, ◌++◌, ℕ, List, Some, length, map, slice_get}
use Rattle.sha2.specs.Sha256.{sha256}
use Rattle.file_batch.specs.Words.{Failing, Holding}
use Rattle.issuer_words.specs.Words.{ReplyBody, Rows}
use Rattle.app_jobs.specs.Faults.{IsBatchFault, IsBookFault, IsReplyFileFault, MayNotBePut}
use Rattle.app_jobs.specs.declared.job_fault.JobFault.{JobFault}
use Rattle.app_jobs.specs.declared.job_fault.JobFault.TheVariants.{InUse, Unwritable, OutOfMemory}
use Rattle.parts_books.specs.PartBooks.{AreInArrivalOrder}
use Rattle.app_parts_folder.specs.PlanTexts.{IsPlan, Plan, decided_head, decided_text, plan_text}
use Rattle.app_parts_folder.specs.declared.part_digests.PartDigests.{PartDigests}
use Rattle.app_parts_folder.specs.Joining as joining
use Rattle.app_parts_folder.specs.Joining.{Answer, IsFolder}
use Rattle.app_parts_folder.specs.Names.{IsOfDecided, IsOfFolder, IsOfParts, IsOverRead, part_name, plan_name, rest_name}
use Rattle.app_parts_folder.specs.Parting as parting
use Rattle.app_parts_folder.specs.Texts.{IsReadingFault}
use Rattle.app_parts_folder.specs.declared.part_fault.PartFault.{PartFault}
use Rattle.app_parts_folder.specs.declared.part_fault.PartFault.TheVariants.{Unreadable, OtherBook, OtherBatch, OtherPlan, OtherFiles}
use Rattle.app_parts_folder.specs.declared.part_file.PartFile.{PartFile}
use Rattle.app_parts_folder.specs.declared.part_file.PartFile.TheVariants.{Book, Batch, Replies, NewBook, Decided}
use Rattle.app_parts_folder.specs.declared.parts_fault.PartsFault.{PartsFault}
use Rattle.app_parts_folder.specs.declared.parts_fault.PartsFault.TheVariants as fault

-- Why files of such names aren't written: another run writes one; one isn't written or put in its place; or memory ran out.
abbrev pub IsPutFaultOf : Failing → (List ℕ → Type 0) → JobFault → Type 0
IsPutFaultOf failing is_such InUse = (name : List ℕ) × is_such name × failing.in_use name
IsPutFaultOf failing is_such Unwritable = (name : List ℕ) × is_such name × MayNotBePut failing name
IsPutFaultOf failing is_such OutOfMemory = Unit {0}
IsPutFaultOf failing is_such _ = ⊥

-- the file of the plan holds this plan
abbrev pub HasPlan : Holding → List ℕ → Plan → Type 0
HasPlan holds folder plan = IsPlan plan × holds (plan_name folder) (plan_text plan)

-- what the file of the plan holds is no plan
abbrev pub HasNoPlan : Holding → List ℕ → Type 0
HasNoPlan holds folder = (bytes : List ℕ) → holds (plan_name folder) bytes → (plan : Plan) → IsPlan plan → bytes ≢ plan_text plan

-- a call on one of a part's files failed, or it isn't there
abbrev pub HasNoFile : Holding → Failing → List ℕ → ℕ → Type 0
HasNoFile holds failing folder part =
    (file : PartFile) × ((bytes : List ℕ) → holds (part_name folder part file) bytes → failing.reading (part_name folder part file))

-- Why a batch isn't put in parts: the book or the batch is a file of the folder, where that is known; the first fault of the book, or of the
-- batch; or a file of the folder isn't written.
abbrev pub IsPartingFault : Type 0 → Holding → Failing → parting.Names → PartsFault → Type 0
IsPartingFault known holds failing names (fault.OneFile first second) =
    known → IsOfFolder names.folder names.book ⊎ IsOfFolder names.folder names.batch
IsPartingFault known holds failing names (fault.Job job) =
    IsBookFault holds failing names.book job
    ⊎ (IsBatchFault holds failing names.batch job ⊎ IsPutFaultOf failing (IsOfFolder names.folder) job)
IsPartingFault known holds failing names _ = ⊥

-- the plan has another digest of this part's book
abbrev pub IsOfOtherBook : Holding → List ℕ → ℕ → Type 0
IsOfOtherBook holds folder part =
    (plan : Plan) (digests : PartDigests) (book : List ℕ) → HasPlan holds folder plan → slice_get plan.digests part ≡ Some digests
    → holds (part_name folder part Book) book → sha256 book ≢ digests.book

-- the same of its batch
abbrev pub IsOfOtherBatch : Holding → List ℕ → ℕ → Type 0
IsOfOtherBatch holds folder part =
    (plan : Plan) (digests : PartDigests) (batch : List ℕ) → HasPlan holds folder plan → slice_get plan.digests part ≡ Some digests
    → holds (part_name folder part Batch) batch → sha256 batch ≢ digests.batch

-- why a file of a part is not the plan's
abbrev pub IsPlannedFault : Holding → Failing → List ℕ → ℕ → PartFault → Type 0
IsPlannedFault holds failing folder part Unreadable = HasNoFile holds failing folder part
IsPlannedFault holds failing folder part OtherBook = IsOfOtherBook holds folder part
IsPlannedFault holds failing folder part OtherBatch = IsOfOtherBatch holds folder part
IsPlannedFault holds failing folder part _ = ⊥

-- Why a part isn't decided: what is written would be over what is read; the plan isn't read, or has no such part; the part's book or batch
-- isn't that of the plan; the first fault of these; or what it comes to isn't written.
abbrev pub IsDecidingFault : Type 0 → Holding → Failing → List ℕ → ℕ → PartsFault → Type 0
IsDecidingFault known holds failing folder part (fault.OneFile first second) = known → IsOverRead folder part
IsDecidingFault known holds failing folder part (fault.Job job) =
    IsReadingFault holds failing (plan_name folder) job
    ⊎ (IsBookFault holds failing (part_name folder part Book) job
    ⊎ (IsBatchFault holds failing (part_name folder part Batch) job ⊎ IsPutFaultOf failing (IsOfDecided folder part) job))
IsDecidingFault known holds failing folder part fault.NoPlan = HasNoPlan holds folder
IsDecidingFault known holds failing folder part fault.NoPart = (plan : Plan) → HasPlan holds folder plan → length plan.digests ≤ part
IsDecidingFault known holds failing folder part (fault.Part number why) = (number ≡ part) × IsPlannedFault holds failing folder part why
IsDecidingFault known holds failing folder part _ = ⊥

-- the file of the rest isn't that of the plan
abbrev pub HasOtherRest : Holding → List ℕ → Type 0
HasOtherRest holds folder = (plan : Plan) (rest : List ℕ) → HasPlan holds folder plan → holds (rest_name folder) rest → sha256 rest ≢ plan.rest

-- the part's last file doesn't say that it is this part of this plan
abbrev pub IsOfOtherPlan : Holding → List ℕ → ℕ → Type 0
IsOfOtherPlan holds folder part =
    (plan : Plan) (bytes behind : List ℕ) → HasPlan holds folder plan → holds (part_name folder part Decided) bytes
    → bytes ≢ decided_head part (sha256 (plan_text plan)) ++ behind

-- it doesn't say so of these replies and this book
abbrev pub IsOfOtherFiles : Holding → List ℕ → ℕ → Type 0
IsOfOtherFiles holds folder part =
    (plan : Plan) (bytes replies book : List ℕ) → HasPlan holds folder plan → holds (part_name folder part Decided) bytes
    → holds (part_name folder part Replies) replies → holds (part_name folder part NewBook) book
    → bytes ≢ decided_text part (sha256 (plan_text plan)) (sha256 replies) (sha256 book)

-- why a part has no answer
abbrev pub IsAnsweringFault : Holding → Failing → List ℕ → ℕ → PartFault → Type 0
IsAnsweringFault holds failing folder part Unreadable = HasNoFile holds failing folder part
IsAnsweringFault holds failing folder part OtherPlan = IsOfOtherPlan holds folder part
IsAnsweringFault holds failing folder part OtherFiles = IsOfOtherFiles holds folder part
IsAnsweringFault holds failing folder part _ = ⊥

-- one of the parts has this fault
abbrev pub IsFaultOfPart : Holding → Failing → List ℕ → JobFault → Type 0
IsFaultOfPart holds failing folder job =
    (part : ℕ) × (IsReplyFileFault holds failing (part_name folder part Replies) job ⊎ IsBookFault holds failing (part_name folder part NewBook) job)

-- the answers that the files hold don't have as many replies as the plan has messages, part by part
abbrev pub HasNoOrder : Holding → List ℕ → Type 0
HasNoOrder holds folder =
    (plan : Plan) (rest : Rows) (answers : List Answer) → IsFolder (Unit {0}) holds folder plan rest answers
    → (replies : List ReplyBody) → ¬ AreInArrivalOrder plan.parts (map (λ answer. answer.replies) answers) replies

-- it is one of the files that `join` writes
abbrev pub IsOfJoined : joining.Names → List ℕ → Type 0
IsOfJoined names name = (name ≡ names.replies) ⊎ (name ≡ names.new_book)

-- one of these is a file of the folder, which has so many parts
abbrev pub IsOverParts : joining.Names → ℕ → Type 0
IsOverParts names count = IsOfParts names.folder count names.replies ⊎ IsOfParts names.folder count names.new_book

-- one of these is a file of the folder, which has as many parts as its plan
abbrev pub IsOverFolder : Holding → joining.Names → Type 0
IsOverFolder holds names = (plan : Plan) × HasPlan holds names.folder plan × IsOverParts names (length plan.digests)

-- Why parts aren't put together: both names are one, or one is that of a file of the folder; the plan isn't read; the rest isn't that of the
-- plan, or no book; a part has no answer, or one that isn't read, or not as many replies as messages; or what they come to isn't written.
abbrev pub IsJoiningFault : Type 0 → Holding → Failing → joining.Names → PartsFault → Type 0
IsJoiningFault known holds failing names (fault.OneFile first second) = known → (names.replies ≡ names.new_book) ⊎ IsOverFolder holds names
IsJoiningFault known holds failing names (fault.Job job) =
    IsReadingFault holds failing (plan_name names.folder) job
    ⊎ (IsBookFault holds failing (rest_name names.folder) job
    ⊎ (IsFaultOfPart holds failing names.folder job ⊎ IsPutFaultOf failing (IsOfJoined names) job))
IsJoiningFault known holds failing names fault.NoPlan = HasNoPlan holds names.folder
IsJoiningFault known holds failing names fault.OtherRest = HasOtherRest holds names.folder
IsJoiningFault known holds failing names fault.Replies = HasNoOrder holds names.folder
IsJoiningFault known holds failing names (fault.Part part why) = IsAnsweringFault holds failing names.folder part why
IsJoiningFault known holds failing names _ = ⊥

-- the exit status of a fault: 2 for names of one file, else 1
abbrev pub status_of : PartsFault → ℕ
status_of (fault.OneFile first second) = 2
status_of _ = 1
