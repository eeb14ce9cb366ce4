-- What is told behind a fault: of one of the files of what is asked for, and so of what that file holds.
use Rattle.std.specs.Prelude.{◌≡◌, ◌≢◌, ◌⊎◌, ⊤, ℕ, List, [], ◌∷◌, Option, Some, None}
use Rattle.file_laws.specs.BatchFault.{number_of_fault}
use Rattle.file_laws.specs.declared.batch_fault.BatchFault.{BatchFault}
use Rattle.file_laws.specs.declared.batch_fault.BatchFault.TheVariants.{Count, Device, OutOfMemory}
use Rattle.book_laws.specs.JsonFault.{number_of_json_fault}
use Rattle.book_laws.specs.declared.json_fault.JsonFault.{JsonFault}
use Rattle.book_places.specs.Places.{IsWrongBook}
use Rattle.book_places.specs.declared.wrong_book.WrongBook.{WrongBook}
use Rattle.file_devices.specs.BatchNames.{Names}
use Rattle.file_devices.specs.Failing.{Failing}
use Rattle.file_devices.specs.Holding.{Holding}
use Rattle.file_devices.specs.declared.host_reason.HostReason.TheVariants.{Failed}
use Rattle.stm_journal_text.specs.declared.replay_fault.ReplayFault.{ReplayFault}
use Rattle.stm_journal_text.specs.declared.replay_fault.ReplayFault.TheVariants as replay
use Rattle.app_words.specs.Asked.{Asked, serial, run, run_with_journal, blocks, audit, audit_blocks, show, pack, pack_blocks}
use Rattle.app_jobs.specs.declared.job_fault.JobFault.{JobFault}
use Rattle.app_jobs.specs.declared.job_fault.JobFault.TheVariants as job
use Rattle.app_reasons.specs.Says.{Says, SaysUnread}
use Rattle.app_reasons.specs.declared.file_kind.FileKind.{FileKind}
use Rattle.app_reasons.specs.declared.file_kind.FileKind.TheVariants as kind
use Rattle.app_reasons.specs.declared.reason.Reason.{Reason}
use Rattle.app_reasons.specs.declared.reason.Reason.TheVariants.{Host, InUse, Book, JournalLine, JournalEntry, TextLine, TooManyLines}

-- ---- which files

-- the book and the batch
abbrev pub IsInput : Names → List ℕ → Type 0
IsInput names name = (name ≡ names.book) ⊎ (name ≡ names.batch)

-- the replies and the new book
abbrev pub IsAnswer : Names → List ℕ → Type 0
IsAnswer names name = (name ≡ names.replies) ⊎ (name ≡ names.new_book)

-- the name is one of these
abbrev pub IsOneOf : List (List ℕ) → List ℕ → Type 0
IsOneOf [] name = ⊥
IsOneOf (first ∷ names) name = (name ≡ first) ⊎ IsOneOf names name

-- the texts that are packed
abbrev pub texts_for : Asked → List (List ℕ)
texts_for (pack texts batch) = texts
texts_for (pack_blocks texts file) = texts
texts_for _ = []

-- the file of this name is read for what is asked for
abbrev pub IsReadFor : Asked → List ℕ → Type 0
IsReadFor (serial names strictness) name = IsInput names name
IsReadFor (run names workers engine strictness) name = IsInput names name
IsReadFor (run_with_journal names workers journal strictness) name = IsInput names name
IsReadFor (blocks names workers engine strictness) name = IsInput names name
IsReadFor (audit names journal) name = (IsInput names name ⊎ IsAnswer names name) ⊎ (journal ≡ Some name)
IsReadFor (audit_blocks names) name = IsInput names name ⊎ IsAnswer names name
IsReadFor (show file) name = name ≡ file
IsReadFor (pack texts batch) name = IsOneOf texts name
IsReadFor (pack_blocks texts file) name = IsOneOf texts name
IsReadFor _ name = ⊥

-- the file of this name is written
abbrev pub IsWrittenFor : Asked → List ℕ → Type 0
IsWrittenFor (serial names strictness) name = IsAnswer names name
IsWrittenFor (run names workers engine strictness) name = IsAnswer names name
IsWrittenFor (run_with_journal names workers journal strictness) name = IsAnswer names name ⊎ (name ≡ journal)
IsWrittenFor (blocks names workers engine strictness) name = IsAnswer names name
IsWrittenFor (pack texts batch) name = name ≡ batch
IsWrittenFor (pack_blocks texts file) name = name ≡ file
IsWrittenFor _ name = ⊥

-- the file of this name is read as a book: the one that is decided on or, in an audit, the one after it
abbrev pub IsBookFor : Asked → List ℕ → Type 0
IsBookFor (serial names strictness) name = name ≡ names.book
IsBookFor (run names workers engine strictness) name = name ≡ names.book
IsBookFor (run_with_journal names workers journal strictness) name = name ≡ names.book
IsBookFor (blocks names workers engine strictness) name = name ≡ names.book
IsBookFor (audit names journal) name = (name ≡ names.book) ⊎ (name ≡ names.new_book)
IsBookFor (audit_blocks names) name = (name ≡ names.book) ⊎ (name ≡ names.new_book)
IsBookFor _ name = ⊥

-- the file of this name is read as one of this kind
abbrev pub IsFileFor : Asked → List ℕ → FileKind → Type 0
IsFileFor (serial names strictness) name kind.Batch = name ≡ names.batch
IsFileFor (run names workers engine strictness) name kind.Batch = name ≡ names.batch
IsFileFor (run_with_journal names workers journal strictness) name kind.Batch = name ≡ names.batch
IsFileFor (blocks names workers engine strictness) name kind.Blocks = name ≡ names.batch
IsFileFor (audit names journal) name kind.Batch = name ≡ names.batch
IsFileFor (audit names journal) name kind.Replies = name ≡ names.replies
IsFileFor (audit_blocks names) name kind.Blocks = name ≡ names.batch
IsFileFor (audit_blocks names) name kind.BlockReplies = name ≡ names.replies
IsFileFor (show file) name _ = name ≡ file
IsFileFor _ name _ = ⊥

-- the file of this name is played as a journal
abbrev pub IsJournalFor : Asked → List ℕ → Type 0
IsJournalFor (audit names journal) name = journal ≡ Some name
IsJournalFor _ name = ⊥

-- the file of this name is a text that is packed
abbrev pub IsTextFor : Asked → List ℕ → Type 0
IsTextFor what name = IsOneOf (texts_for what) name

-- ---- what is told of them

-- the host says why; where its device didn't fail, the file holds no known bytes
abbrev pub TellsUnread : Holding → List ℕ → Reason → Type 0
TellsUnread holds name (Host reason) = reason ≢ Failed → (bytes : List ℕ) → ¬ holds name bytes
TellsUnread holds name _ = ⊥

-- the host says why
abbrev pub IsOfHost : Reason → Type 0
IsOfHost (Host reason) = ⊤
IsOfHost _ = ⊥

-- the first fault of the text has this number, and stands where it is told
abbrev pub SaysOfBook : List ℕ → JsonFault → Reason → Type 0
SaysOfBook text fault (Book place) =
    (wrong : WrongBook) × IsWrongBook text wrong × (wrong.place ≡ place) × (number_of_json_fault wrong.fault ≡ number_of_json_fault fault)
SaysOfBook text fault _ = ⊥

abbrev pub TellsOfBook : Holding → JsonFault → List ℕ → Reason → Type 0
TellsOfBook holds fault name reason = (bytes : List ℕ) → holds name bytes → SaysOfBook bytes fault reason

-- the first fault of a file of this kind has this number, and stands where it is told
abbrev pub TellsOfFile : Holding → BatchFault → FileKind → List ℕ → Reason → Type 0
TellsOfFile holds fault kind name reason =
    (bytes : List ℕ) → holds name bytes → (found : BatchFault) × Says kind bytes found reason × (number_of_fault found ≡ number_of_fault fault)

-- why a file is not read as one of this kind: the host says it, or it is its first fault
abbrev pub TellsOfOne : Holding → FileKind → JobFault → List ℕ → Reason → Type 0
TellsOfOne holds kind job.Unreadable name reason = TellsUnread holds name reason
TellsOfOne holds kind (job.Batch fault) name reason = TellsOfFile holds fault kind name reason
TellsOfOne holds kind fault name reason = ⊥

-- why a book is not read: the host says it, or it is its first fault
abbrev pub TellsOfOneBook : Holding → JobFault → List ℕ → Reason → Type 0
TellsOfOneBook holds job.Unreadable name reason = TellsUnread holds name reason
TellsOfOneBook holds (job.Book fault) name reason = TellsOfBook holds fault name reason
TellsOfOneBook holds fault name reason = ⊥

-- why a file is not written: the host says it, or another run has claimed it
abbrev pub TellsOfWritten : Failing → JobFault → List ℕ → Reason → Type 0
TellsOfWritten failing job.Unwritable name reason = failing.refused name × IsOfHost reason
TellsOfWritten failing job.InUse name reason = failing.in_use name × (reason ≡ InUse)
TellsOfWritten failing fault name reason = ⊥

-- the first body of a batch that is no message is told
abbrev pub TellsUnreadable : Holding → List ℕ → Reason → Type 0
TellsUnreadable holds name reason = (bytes : List ℕ) → holds name bytes → SaysUnread bytes reason

-- the fault of a journal, told with its place
abbrev pub reason_of_journal : ReplayFault → Option Reason
reason_of_journal (replay.Line number) = Some (JournalLine number)
reason_of_journal (replay.Unlogged number) = Some (JournalEntry number)
reason_of_journal replay.OutOfMemory = None

-- the line of this number is told
abbrev pub IsOfLine : ℕ → Reason → Type 0
IsOfLine line (TextLine number why) = number ≡ line
IsOfLine line _ = ⊥

-- What is told of a fault of files of bodies: of a device, that it failed; that with a text there are too many bodies; or where the first fault of
-- the file stands.
abbrev pub TellsOfBodies : Holding → Asked → BatchFault → List ℕ → Reason → Type 0
TellsOfBodies holds what fault name reason =
    ((fault ≡ Device) × (IsReadFor what name ⊎ IsWrittenFor what name) × IsOfHost reason)
    ⊎ (((fault ≡ Count) × IsTextFor what name × (reason ≡ TooManyLines))
    ⊎ ((kind : FileKind) × IsFileFor what name kind × TellsOfFile holds fault kind name reason))

-- What is told behind a fault is told of a file of what is asked for. Where it is known what that file holds, the fault that is told is
-- the first of these bytes, stands at the place that is told, and is the one behind which it is told.
abbrev pub Tells : Holding → Asked → JobFault → List ℕ → Reason → Type 0
Tells holds what job.Unreadable name reason = IsReadFor what name × TellsUnread holds name reason
Tells holds what job.Unwritable name reason = IsWrittenFor what name × IsOfHost reason
Tells holds what job.InUse name reason = (IsReadFor what name ⊎ IsWrittenFor what name) × (reason ≡ InUse)
Tells holds what (job.Book fault) name reason = IsBookFor what name × TellsOfBook holds fault name reason
Tells holds what (job.Batch fault) name reason = TellsOfBodies holds what fault name reason
Tells holds what (job.Journal fault) name reason = IsJournalFor what name × (reason_of_journal fault ≡ Some reason)
Tells holds what (job.Text line) name reason = IsTextFor what name × IsOfLine line reason
Tells holds what (job.Bodies count) name reason = IsFileFor what name kind.Batch × TellsUnreadable holds name reason
Tells holds what job.OutOfMemory name reason = ⊥
