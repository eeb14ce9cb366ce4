-- Books that files hold.
use Rattle.std.proofs.Common.{◌≡◌, ◌∙◌, ℕ, List, Result, Ok, Err, inl, inr, sym, true≢false}
use Rattle.issuer_rows.specs.Fold.{Rows}
use Rattle.book_laws.specs.CheckBook.{IsSound, IsFirstFault}
use Rattle.book_laws.specs.Reading.{reading}
use Rattle.book_laws.specs.declared.book_fault.BookFault.{BookFault}
use Rattle.book_laws.specs.declared.book_fault.BookFault.TheVariants as wrong
use Rattle.book_laws.specs.declared.json_fault.JsonFault.TheVariants as json
use Rattle.book_laws.specs.declared.text_fault.TextFault.{TextFault}
use Rattle.book_laws.specs.declared.text_fault.TextFault.TheVariants as wrong_text
use Rattle.file_batch.specs.Words.{Failing, Holding}
use Rattle.app_runs.specs.Words.{IsBookFault, IsBookOf, JobFault}
use Rattle.app_jobs.specs.declared.job_fault.JobFault.TheVariants.{Unreadable, Unwritable, InUse, Book, Batch, Journal, Text, Bodies, OutOfMemory}
use Rattle.app_laws.specs.Faults.{IsOfNoFile}
use Rattle.app_laws.proofs.Once.{same_ok}

-- nothing is wrong with a sound book
pub nothing_wrong : (rows : Rows) (fault : BookFault) → IsSound rows → IsFirstFault rows fault → ⊥
nothing_wrong rows wrong.CardNumber sound h = true≢false (sym sound.numbers ∙ h)
nothing_wrong rows wrong.OriginalWithoutAccount sound h = true≢false (sym sound.payers ∙ h.1)
nothing_wrong rows wrong.OutOfRange sound h = h.2 sound.backings
nothing_wrong rows wrong.CardWithoutAccount sound h = true≢false (sym sound.accounts ∙ h.3)

pub no_fault : (book : Rows) (fault : TextFault) → (let read : Result Rows TextFault = Ok book in read ≡ Err fault) → ⊥
no_fault book fault e = cc

-- the file of this name holds a text, which is read as these rows, with which nothing is wrong
pub record HoldsBook (holds : Holding) (name : List ℕ) (rows : Rows) : Type 0 where
  pub text : List ℕ
  pub held : holds name text
  pub read : reading text ≡ Ok rows
  pub sound : IsSound rows

-- it is read as no other book
pub one_book : (holds : Holding) (name : List ℕ) (rows others : Rows) → HoldsBook holds name rows → IsBookOf holds name others → others ≡ rows
one_book holds name rows others book is = same_ok others rows (sym (is book.text book.held).0 ∙ book.read)

-- and has no fault
pub no_book_fault : (holds : Holding) (failing : Failing) (name : List ℕ) (rows : Rows) (may_fail : Type 0) (fault : JobFault) → (failing.reading name → may_fail)
    → HoldsBook holds name rows → IsBookFault holds failing name fault → IsOfNoFile may_fail fault
no_book_fault holds failing name rows may_fail (Book (json.Invalid found)) may book h =
    let is = h book.text book.held in
    let same = same_ok is.0 rows (sym is.1 ∙ book.read) in
    absurd (nothing_wrong rows found book.sound (rw same at is.2))
no_book_fault holds failing name rows may_fail (Book json.Syntax) may book h = absurd (no_fault rows wrong_text.Syntax (sym book.read ∙ h book.text book.held))
no_book_fault holds failing name rows may_fail (Book (json.Shape part)) may book h = absurd (no_fault rows (wrong_text.Shape part) (sym book.read ∙ h book.text book.held))
no_book_fault holds failing name rows may_fail (Book json.Range) may book h = absurd (no_fault rows wrong_text.Range (sym book.read ∙ h book.text book.held))
no_book_fault holds failing name rows may_fail (Book json.OutOfMemory) may book h = inl tt
no_book_fault holds failing name rows may_fail Unreadable may book h = inr (may (h book.text book.held))
no_book_fault holds failing name rows may_fail OutOfMemory may book h = inl tt
no_book_fault holds failing name rows may_fail Unwritable may book h = absurd h
no_book_fault holds failing name rows may_fail InUse may book h = absurd h
no_book_fault holds failing name rows may_fail (Batch fault) may book h = absurd h
no_book_fault holds failing name rows may_fail (Journal fault) may book h = absurd h
no_book_fault holds failing name rows may_fail (Text line) may book h = absurd h
no_book_fault holds failing name rows may_fail (Bodies count) may book h = absurd h
