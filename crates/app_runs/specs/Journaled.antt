-- What files hold after a batch was decided and the run's journal was kept.
use Rattle.std.specs.Prelude.{◌≡◌, ◌≢◌, ◌⊎◌, ℕ, List, Result, Ok, IfErr, OnErr, OnOk}
use Rattle.file_batch.specs.Counting.{count_of}
use Rattle.file_batch.specs.declared.body_count.BodyCount.{BodyCount}
use Rattle.file_batch.specs.declared.strictness.Strictness.{Strictness}
use Rattle.file_batch.specs.Words.{AreAsTheyWere, AreReplyBodies, Failing, IsAsItWas, IsBatchOf, IsThere, Names, replies_text}
use Rattle.book_laws.specs.Reading.{reading}
use Rattle.book_laws.specs.Text.{book_text}
use Rattle.engine_locked.specs.Journals.{IsJournalOf}
use Rattle.stm_journal_text.specs.Logged.{greatest}
use Rattle.stm_journal_text.specs.Journal.{AreEntries, journal_text}
use Rattle.stm_journal_text.specs.declared.entry.Entry.{Entry}
use Rattle.issuer_words.specs.Words.{Frame, Rows, replies_to, rows_after}
use Rattle.stm_core_laws.specs.Play.{opening_play}
use Rattle.app_jobs.specs.Faults.{IsAnsweringFault, IsBookFault, IsPuttingFault, IsSomeBook, IsStrictFault, MayBeRefused, MayNotBeAnswered, MayNotBePut}
use Rattle.app_jobs.specs.declared.job_fault.JobFault.{JobFault}
use Rattle.app_runs.specs.declared.traced_answer.TracedAnswer.{TracedAnswer}
use Rattle.app_jobs.specs.Decided.{Holding, IsBookOf}

-- the entries are the journal of a run of these frames on these rows, which committed so many of them
abbrev pub IsRunJournal : Rows → List Frame → List Entry → ℕ → Type 0
IsRunJournal rows frames entries committed = IsJournalOf (opening_play rows frames greatest) entries committed (replies_to rows frames)

-- The batch of this name was decided on these rows, and the entries are the journal of that run. Where it is known what files hold, the
-- batch was there; replies, journal and the book after them were written to outputs of their own, whose bytes are known then.
pub record IsAnsweredWithJournal {O : Type 0} (is_known_output : O → Type 0) (written : O → List ℕ) (known : Type 0) (old : Holding) (batch : List ℕ) (rows : Rows) (answer : TracedAnswer O) : Type 0 where
  pub frames : List Frame
  pub entries : List Entry
  pub committed : ℕ
  pub counted : answer.count ≡ count_of frames
  pub batch_there : known → IsThere old batch
  pub messages : (bytes : List ℕ) → old batch bytes → IsBatchOf bytes frames
  pub are : AreEntries entries
  pub ran : IsRunJournal rows frames entries committed
  pub back : reading (book_text (rows_after rows frames)) ≡ Ok (rows_after rows frames)
  pub bodies : AreReplyBodies (replies_to rows frames)
  pub replied : known → is_known_output answer.replies × (written answer.replies ≡ replies_text (replies_to rows frames))
  pub logged : known → is_known_output answer.journal × (written answer.journal ≡ journal_text entries)
  pub booked : known → is_known_output answer.new_book × (written answer.new_book ≡ book_text (rows_after rows frames))

-- replies, the book after them or the journal may not be put in their place: one of them may be refused
abbrev pub MayBeRefusedWithJournal : Failing → Names → List ℕ → Type 0
MayBeRefusedWithJournal failing names journal = MayBeRefused failing names ⊎ failing.refused journal

-- the book after replies that were written, or the journal, may not be written, or the three may not be put in their place
abbrev pub MayNotBeAnsweredWithJournal : Failing → Names → List ℕ → Type 0
MayNotBeAnsweredWithJournal failing names journal = MayNotBeAnswered failing names ⊎ MayNotBePut failing journal

-- Why a batch is not decided with a journal: the first fault of the book; or, behind a sound book, that the batch is not answered, or is refused.
abbrev pub IsDecidingFaultWithJournal : Strictness → Holding → Failing → Names → List ℕ → JobFault → Type 0
IsDecidingFaultWithJournal strictness old failing names journal fault =
    IsBookFault old failing names.book fault
    ⊎ (IsSomeBook old names.book × (IsAnsweringFault old failing names (MayNotBeAnsweredWithJournal failing names journal) fault
    ⊎ IsStrictFault strictness old names.batch fault))

-- over files and their outputs
module _ {F O : Type 0} (is_known : F → Type 0) (holds : F → Holding) (failing : F → Failing) (is_known_output : O → Type 0) (written : O → List ℕ) where
  -- replies, journal and new book are put in place, in this order: all of them or, after a fault, none
  pub record PutsRun (old new : F) (names : Names) (journal : List ℕ) (answer : TracedAnswer O) (result : Result (Unit {0}) JobFault) : Type 0 where
    pub replies : OnOk result (is_known old → is_known_output answer.replies → names.replies ≢ journal → names.replies ≢ names.new_book
        → holds new names.replies (written answer.replies))
    pub log : OnOk result (is_known old → is_known_output answer.journal → journal ≢ names.new_book → holds new journal (written answer.journal))
    pub book : OnOk result (is_known old → is_known_output answer.new_book → holds new names.new_book (written answer.new_book))
    pub kept : OnErr result (AreAsTheyWere (holds old) (holds new))
    pub fault : IfErr result (IsPuttingFault (MayBeRefusedWithJournal (failing old) names journal))
    pub others : (other : List ℕ) → other ≢ names.replies → other ≢ names.new_book → other ≢ journal → IsAsItWas (holds old) (holds new) other
    pub known : is_known old → is_known new

-- The book and the batch that the files held, of so many bodies, were decided, and the entries are the journal of that run. Where it is
-- known what files hold, the file of the new book holds the text of the book after the batch, that of the journal, where it is
-- another, the entries' text, and that of the replies, where it is a third, theirs.
pub record IsDecidedWithJournal (known : Type 0) (old new : Holding) (names : Names) (journal : List ℕ) (count : BodyCount) : Type 0 where
  pub rows : Rows
  pub frames : List Frame
  pub entries : List Entry
  pub committed : ℕ
  pub counted : count ≡ count_of frames
  pub book_there : known → IsThere old names.book
  pub batch_there : known → IsThere old names.batch
  pub opening : IsBookOf old names.book rows
  pub messages : (bytes : List ℕ) → old names.batch bytes → IsBatchOf bytes frames
  pub are : AreEntries entries
  pub ran : IsRunJournal rows frames entries committed
  pub back : reading (book_text (rows_after rows frames)) ≡ Ok (rows_after rows frames)
  pub bodies : AreReplyBodies (replies_to rows frames)
  pub after : known → new names.new_book (book_text (rows_after rows frames))
  pub logged : known → journal ≢ names.new_book → new journal (journal_text entries)
  pub answered : known → names.replies ≢ journal → names.replies ≢ names.new_book → new names.replies (replies_text (replies_to rows frames))
