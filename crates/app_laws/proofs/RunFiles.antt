-- An audit of the files that a run left.
use Rattle.std.proofs.Common.{◌≡◌, ◌⊎◌, ℕ, List, inl, inr}
use Rattle.issuer_words.specs.Words.{Frame, ReplyBody, Rows, replies_to, rows_after}
use Rattle.book_changes.proofs.Sound.{stays_sound}
use Rattle.book_laws.specs.Text.{book_text}
use Rattle.file_batch.specs.Words.{AreReplyBodies, Failing, Holding, IsBatchOf, IsThere, Names, replies_text}
use Rattle.app_runs.specs.Words.{AreHeld, IsAudited, IsAuditingFault, IsBookOf, IsDecided, IsFaultInOrder, JobFault}
use Rattle.app_audit.specs.Finding.{Finds}
use Rattle.app_audit.specs.declared.audited.Audit.{Audit}
use Rattle.app_audit.specs.declared.audited.Audit.TheVariants as in_batch
use Rattle.app_jobs.specs.declared.job_fault.JobFault.TheVariants.{OutOfMemory}
use Rattle.app_laws.specs.Faults.{IsOfNoFile, MayNotBeRead}
use Rattle.app_laws.specs.Files.{IsReadAgain}
use Rattle.app_laws.specs.Kept.{AreInputsKept}
use Rattle.app_laws.proofs.Audited.{same}
use Rattle.app_laws.proofs.Books.{HoldsBook, no_book_fault, one_book}
use Rattle.app_laws.proofs.Files.{HoldsBatch, HoldsReplies, no_batch_fault, no_replies_fault, one_batch, one_list}

-- the files of these names hold this book and this batch, the replies of deciding it, and the book after it
pub record HoldsRun (holds : Holding) (names : Names) (rows : Rows) (frames : List Frame) : Type 0 where
  pub book : HoldsBook holds names.book rows
  pub batch : HoldsBatch holds names.batch frames
  pub replies : HoldsReplies holds names.replies (replies_to rows frames)
  pub new_book : HoldsBook holds names.new_book (rows_after rows frames)

-- what is read of them is what they hold
pub finds_of_held : (known : Type 0) (holds : Holding) (names : Names) (rows others : Rows) (frames sent : List Frame) (answers : List ReplyBody) (after : Rows) (found : Audit)
    → HoldsRun holds names rows frames → AreHeld known holds names others sent answers after
    → Finds answers after (replies_to others sent) (rows_after others sent) found → found ≡ in_batch.Same
finds_of_held known holds names rows others frames sent answers after found held read finds =
    let book = one_book holds names.book rows others held.book read.decided.opening in
    let batch = one_batch holds names.batch frames sent held.batch read.decided.messages in
    let replies = one_list holds names.replies (replies_to rows frames) answers held.replies read.answered.answered in
    let new_book = one_book holds names.new_book (rows_after rows frames) after held.new_book read.answered.after in
    same answers (replies_to rows frames) after (rows_after rows frames) found replies new_book (rw (book, batch) at finds)

-- calls on these files may fail, as far as this says
pub record MayFail (failing : Failing) (names : Names) (may_fail : Type 0) : Type 0 where
  pub book : failing.reading names.book → may_fail
  pub batch : failing.reading names.batch → may_fail
  pub replies : failing.reading names.replies → may_fail
  pub new_book : failing.reading names.new_book → may_fail

pub of_these : (failing : Failing) (names : Names) (others : Type 0) → MayFail failing names (MayNotBeRead failing names ⊎ others)
of_these failing names others =
    record { book = λ f. inl (inl (inl f)); batch = λ f. inl (inl (inr f)); replies = λ f. inl (inr (inl f)); new_book = λ f. inl (inr (inr f)) }

pub of_these_alone : (failing : Failing) (names : Names) → MayFail failing names (MayNotBeRead failing names)
of_these_alone failing names =
    record { book = λ f. inl (inl f); batch = λ f. inl (inr f); replies = λ f. inr (inl f); new_book = λ f. inr (inr f) }

-- none of them has a fault
pub no_fault_in_order : (holds : Holding) (failing : Failing) (names : Names) (rows : Rows) (frames : List Frame) (may_fail behind : Type 0) (fault : JobFault)
    → MayFail failing names may_fail → HoldsRun holds names rows frames → (behind → IsOfNoFile may_fail fault) → IsFaultInOrder holds failing names behind fault
    → IsOfNoFile may_fail fault
no_fault_in_order holds failing names rows frames may_fail behind fault may held last (inl book) =
    no_book_fault holds failing names.book rows may_fail fault may.book held.book book
no_fault_in_order holds failing names rows frames may_fail behind fault may held last (inr b) = elim b.1 [
  | inl batch ↦ no_batch_fault holds failing names.batch frames may_fail fault may.batch held.batch batch
  | inr m ↦ elim m.1 [
    | inl replies ↦ no_replies_fault holds failing names.replies (replies_to rows frames) may_fail fault may.replies held.replies replies
    | inr r ↦ elim r.1 [
      | inl new_book ↦ no_book_fault holds failing names.new_book (rows_after rows frames) may_fail fault may.new_book held.new_book new_book
      | inr n ↦ last n.1
    ]
  ]
]

pub out_of_memory : (may_fail : Type 0) (fault : JobFault) → fault ≡ OutOfMemory → IsOfNoFile may_fail fault
out_of_memory may_fail fault is = rw is (inl tt)

-- a run left files that hold it
pub held_behind : (known : Type 0) (old new : Holding) (names : Names) (rows : Rows) (frames : List Frame) → AreInputsKept known old new names
    → IsThere old names.book → IsBookOf old names.book rows → IsThere old names.batch → ((bytes : List ℕ) → old names.batch bytes → IsBatchOf bytes frames)
    → AreReplyBodies (replies_to rows frames) → new names.replies (replies_text (replies_to rows frames))
    → IsReadAgain (rows_after rows frames) → new names.new_book (book_text (rows_after rows frames)) → HoldsRun new names rows frames
held_behind known old new names rows frames inputs text opening sent messages bodies replies back after =
    let is = opening text.0 text.1 in
    record {
      book = record { text = text.0; held = inputs.book.kept text.0 text.1; read = is.0; sound = is.1 };
      batch = record { bytes = sent.0; held = inputs.batch.kept sent.0 sent.1; is = messages sent.0 sent.1 };
      replies = record { held = replies; are = bodies };
      new_book = record { text = book_text (rows_after rows frames); held = after; read = back; sound = stays_sound frames rows is.1 };
    }

pub held_by_run : (known : Type 0) (old new : Holding) (names : Names) (count : _) (run : IsDecided known old new names count) → AreInputsKept known old new names
    → HoldsRun new names run.rows run.frames
held_by_run known old new names count run inputs =
    let k = inputs.was_known in
    held_behind known old new names run.rows run.frames inputs (run.book_there k) run.opening (run.batch_there k) run.messages run.bodies (run.answered k inputs.apart)
    run.back (run.after k)

pub says_same_of_files : (known later : Type 0) (old new : Holding) (names : Names) (count : _) (found : Audit) → AreInputsKept known old new names
    → IsDecided known old new names count → IsAudited later new names found → found ≡ in_batch.Same
says_same_of_files known later old new names count found inputs run audited =
    finds_of_held later new names run.rows audited.rows run.frames audited.frames audited.answers audited.rows_after_it found (held_by_run known old new names count run inputs)
    audited.held audited.finds

pub no_fault_of_files : (known : Type 0) (old new : Holding) (failing : Failing) (names : Names) (count : _) (fault : JobFault) → AreInputsKept known old new names
    → IsDecided known old new names count → IsAuditingFault new failing names fault → IsOfNoFile (MayNotBeRead failing names) fault
no_fault_of_files known old new failing names count fault inputs run =
    let may_fail = MayNotBeRead failing names in
    no_fault_in_order new failing names run.rows run.frames may_fail (fault ≡ OutOfMemory) fault (of_these_alone failing names)
    (held_by_run known old new names count run inputs) (out_of_memory may_fail fault)
