-- Why a job on files is not done: the first fault of what a file holds, where its bytes are known; that a call failed, on a file of which
-- calls may fail; or out of memory.
use Rattle.std.specs.Prelude.{◌≡◌, ◌≢◌, ◌⊎◌, ◌<◌, ℕ, List, Result, Err, IsTrue}
use Rattle.file_batch.specs.Counting.{count_of}
use Rattle.file_batch.specs.declared.strictness.Strictness.{Strictness}
use Rattle.file_batch.specs.declared.strictness.Strictness.TheVariants.{Strict}
use Rattle.file_batch.specs.Words.{BatchFault, Failing, FailsAsReplies, IsBatchOf, IsReplyFileOf, Names, batch_magic, bodies_of, is_of_bytes}
use Rattle.file_laws.specs.declared.batch_fault.BatchFault.TheVariants.{Device}
use Rattle.book_laws.specs.Reading.{IsAnswer, reading}
use Rattle.issuer_words.specs.Words.{Frame, ReplyBody, Rows}
use Rattle.app_jobs.specs.Decided.{Holding, IsBookOf}
use Rattle.app_jobs.specs.declared.job_fault.JobFault.{JobFault}
use Rattle.app_jobs.specs.declared.job_fault.JobFault.TheVariants.{Unreadable, Unwritable, Book, Batch, Bodies, OutOfMemory}

-- the file of this name, where its bytes are known, is some sound book
abbrev pub IsSomeBook : Holding → List ℕ → Type 0
IsSomeBook old name = (rows : Rows) × IsBookOf old name rows

-- Why the file of this name gives no book: its first fault; a call on it failed; or memory ran out.
abbrev pub IsBookFault : Holding → Failing → List ℕ → JobFault → Type 0
IsBookFault old failing name (Book fault) = (bytes : List ℕ) → old name bytes → IsAnswer (reading bytes) (Err fault)
IsBookFault old failing name Unreadable = (bytes : List ℕ) → old name bytes → failing.reading name
IsBookFault old failing name OutOfMemory = Unit {0}
IsBookFault _ _ _ _ = ⊥

-- Why the file of this name gives no batch: its first fault; a call on it failed; or memory ran out.
abbrev pub IsBatchFault : Holding → Failing → List ℕ → JobFault → Type 0
IsBatchFault old failing name (Batch fault) =
    ((bytes : List ℕ) → old name bytes → IsTrue (is_of_bytes fault) → bodies_of batch_magic bytes ≡ Err fault)
    × (fault ≡ Device → failing.reading name)
IsBatchFault old failing name Unreadable = (bytes : List ℕ) → old name bytes → failing.reading name
IsBatchFault old failing name OutOfMemory = Unit {0}
IsBatchFault _ _ _ _ = ⊥

-- Why a batch or replies are not written to their file: a call on it failed, or it is refused, where these may be; or memory ran out.
abbrev pub IsWritingFault : Type 0 → Type 0 → JobFault → Type 0
IsWritingFault may_fail refused (Batch fault) = (¬ IsTrue (is_of_bytes fault)) × (fault ≡ Device → may_fail)
IsWritingFault may_fail refused Unwritable = refused
IsWritingFault may_fail refused OutOfMemory = Unit {0}
IsWritingFault _ _ _ = ⊥

-- the same of the file of this name
abbrev pub IsWritingFaultOf : Failing → List ℕ → JobFault → Type 0
IsWritingFaultOf failing name fault = IsWritingFault (failing.writing name) (failing.refused name) fault

-- Why the replies to a batch are not written: the batch isn't read, or their file isn't written.
abbrev pub IsReplyingFault : Holding → Failing → Names → JobFault → Type 0
IsReplyingFault old failing names fault = IsBatchFault old failing names.batch fault ⊎ IsWritingFaultOf failing names.replies fault

-- Why a file is not written or put in its place: that may be, or memory ran out.
abbrev pub IsPuttingFault : Type 0 → JobFault → Type 0
IsPuttingFault may_fail Unwritable = may_fail
IsPuttingFault may_fail OutOfMemory = Unit {0}
IsPuttingFault _ _ = ⊥

-- Why replies, which this call writes, or the book behind them are not written: the call failed; that may be of the book; or memory ran out.
abbrev pub IsWritingBothFault : {P : Type 0} → (P → Result (Unit {0}) BatchFault → P → Type 0) → P → P → Type 0 → JobFault → Type 0
IsWritingBothFault step old new may_fail fault = ((e : BatchFault) × (fault ≡ Batch e) × step old (Err e) new) ⊎ IsPuttingFault may_fail fault

-- the file of this name may not be written, or not be put in its place: a call on it may fail, or it may be refused
abbrev pub MayNotBePut : Failing → List ℕ → Type 0
MayNotBePut failing name = failing.writing name ⊎ failing.refused name

-- replies and the book after them may not be put in their place: one of them may be refused
abbrev pub MayBeRefused : Failing → Names → Type 0
MayBeRefused failing names = failing.refused names.replies ⊎ failing.refused names.new_book

-- the book after replies that were written may not be written, or both may not be put in their place
abbrev pub MayNotBeAnswered : Failing → Names → Type 0
MayNotBeAnswered failing names = MayNotBePut failing names.new_book ⊎ MayBeRefused failing names

-- the file of this name, where its bytes are known, is some batch
abbrev pub IsSomeBatch : Holding → List ℕ → Type 0
IsSomeBatch old name = (frames : List Frame) × ((bytes : List ℕ) → old name bytes → IsBatchOf bytes frames)

-- the file of this name, where its bytes are known, is some reply file
abbrev pub IsSomeReplyFile : Holding → List ℕ → Type 0
IsSomeReplyFile old name = (answers : List ReplyBody) × ((bytes : List ℕ) → old name bytes → IsReplyFileOf bytes answers)

-- Why a batch is not decided on a book, or what it comes to isn't put in place: the replies are not written; or, behind a batch, that a
-- file of what it comes to is not written or not put in its place.
abbrev pub IsAnsweringFault : Holding → Failing → Names → Type 0 → JobFault → Type 0
IsAnsweringFault old failing names may_fail fault =
    IsReplyingFault old failing names fault ⊎ (IsSomeBatch old names.batch × IsPuttingFault may_fail fault)

-- Why a batch is refused that could be decided: so many of its bodies are no message, where each has to be one.
abbrev pub IsStrictFault : Strictness → Holding → List ℕ → JobFault → Type 0
IsStrictFault Strict old batch (Bodies count) =
    (0 < count) × (frames : List Frame) × (count ≡ (count_of frames).unreadable) × ((bytes : List ℕ) → old batch bytes → IsBatchOf bytes frames)
IsStrictFault _ _ _ _ = ⊥

-- Why a batch is not decided: the first fault of the book; or, behind a sound book, that the batch is not answered, or is refused.
abbrev pub IsDecidingFault : Strictness → Holding → Failing → Names → JobFault → Type 0
IsDecidingFault strictness old failing names fault =
    IsBookFault old failing names.book fault
    ⊎ (IsSomeBook old names.book × (IsAnsweringFault old failing names (MayNotBeAnswered failing names) fault
    ⊎ IsStrictFault strictness old names.batch fault))

-- Why the file of this name gives no replies: its first fault; a call on it failed; or memory ran out.
abbrev pub IsReplyFileFault : Holding → Failing → List ℕ → JobFault → Type 0
IsReplyFileFault old failing name (Batch fault) =
    ((bytes : List ℕ) → old name bytes → IsTrue (is_of_bytes fault) → FailsAsReplies bytes fault) × (fault ≢ Device)
IsReplyFileFault old failing name Unreadable = (bytes : List ℕ) → old name bytes → failing.reading name
IsReplyFileFault old failing name OutOfMemory = Unit {0}
IsReplyFileFault _ _ _ _ = ⊥

-- why a book or the batch that was decided on it is not opened: the first fault in this order
abbrev pub IsOpeningFault : Holding → Failing → Names → JobFault → Type 0
IsOpeningFault old failing names fault =
    IsBookFault old failing names.book fault ⊎ (IsSomeBook old names.book × IsBatchFault old failing names.batch fault)

-- why replies or the book after them are not opened: the first fault in this order
abbrev pub IsAnswersFault : Holding → Failing → Names → JobFault → Type 0
IsAnswersFault old failing names fault =
    IsReplyFileFault old failing names.replies fault ⊎ (IsSomeReplyFile old names.replies × IsBookFault old failing names.new_book fault)

-- Why an audit finds nothing: the first fault of the book, of the batch, of the replies or of the new book, where those before it in this
-- order have none, or a call on that file that failed; or, behind all four, another.
abbrev pub IsFaultInOrder : Holding → Failing → Names → Type 0 → JobFault → Type 0
IsFaultInOrder old failing names behind fault =
    IsBookFault old failing names.book fault
    ⊎ (IsSomeBook old names.book × (IsBatchFault old failing names.batch fault
    ⊎ (IsSomeBatch old names.batch × (IsReplyFileFault old failing names.replies fault
    ⊎ (IsSomeReplyFile old names.replies × (IsBookFault old failing names.new_book fault
    ⊎ (IsSomeBook old names.new_book × behind)))))))

-- Behind all four only memory may run out.
abbrev pub IsAuditingFault : Holding → Failing → Names → JobFault → Type 0
IsAuditingFault old failing names fault =
    IsFaultInOrder old failing names (fault ≡ OutOfMemory) fault
