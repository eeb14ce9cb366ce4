-- Tomorrow's run opens today's new book, and goes on where today's stopped.
use Rattle.std.proofs.Common.{◌≡◌, ◌⊎◌, inl, inr, List, Result, Ok, Err, refl, sym, ap, ◌∙◌}
use Rattle.issuer_fold.proofs.FoldLaws.{rows_after-append, replies_to-append}
use Rattle.issuer_words.specs.Words.{Frame, Rows, rows_after}
use Rattle.book_laws.specs.CheckBook.{IsSound}
use Rattle.book_laws.specs.Reading.{reading, IsAnswer}
use Rattle.book_laws.specs.Text.{book_text}
use Rattle.book_laws.specs.declared.json_fault.JsonFault.{JsonFault}
use Rattle.book_laws.specs.declared.json_fault.JsonFault.TheVariants as fault
use Rattle.book_laws.specs.declared.text_fault.TextFault.{TextFault}
use Rattle.book_laws.specs.declared.text_fault.TextFault.TheVariants as text
use Rattle.book_changes.proofs.Sound.{stays_sound}
use Rattle.app_laws.specs.NextDay.{ReadsTodaysBook, AreOneRun}
use Rattle.app_laws.proofs.Books.{nothing_wrong, no_fault}
use Rattle.app_laws.proofs.Once.{same_ok, same_book}

-- what is answered of a text that is read as a sound book
answered : (read : Result Rows TextFault) (book : Rows) (answer : Result Rows JsonFault) → IsSound book → read ≡ Ok book → IsAnswer read answer
    → (answer ≡ Ok book) ⊎ (answer ≡ Err fault.OutOfMemory)
answered read book (Ok other) sound is h = inl (ap (λ (b : Rows). Ok b) (same_ok other book (sym h.0 ∙ is)))
answered read book (Err (fault.Invalid found)) sound is h =
    let same = same_ok h.0 book (sym h.1 ∙ is) in
    absurd (nothing_wrong book found sound (rw same at h.2))
answered read book (Err fault.Syntax) sound is h = absurd (no_fault book text.Syntax (sym is ∙ h))
answered read book (Err (fault.Shape part)) sound is h = absurd (no_fault book (text.Shape part) (sym is ∙ h))
answered read book (Err fault.Range) sound is h = absurd (no_fault book text.Range (sym is ∙ h))
answered read book (Err fault.OutOfMemory) sound is h = inr refl

pub reads_todays_book : (rows : Rows) (frames : List Frame) (answer : Result Rows JsonFault) → ReadsTodaysBook rows frames answer
reads_todays_book rows frames answer sound again h =
    answered (reading (book_text (rows_after rows frames))) (rows_after rows frames) answer (stays_sound frames rows sound) again h

pub are_one_run : (rows : Rows) (today tomorrow : List Frame) (opening : Rows) → AreOneRun rows today tomorrow opening
are_one_run rows today tomorrow opening again from =
    let same = same_book (rows_after rows today) opening again from in
    (rw same (replies_to-append rows today tomorrow), rw same (rows_after-append rows today tomorrow))
