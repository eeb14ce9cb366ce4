-- What tomorrow's run makes of today's new book.
use Rattle.std.specs.Prelude.{◌≡◌, ◌⊎◌, List, ◌++◌, Result, Ok, Err}
use Rattle.issuer_words.specs.Words.{Frame, Rows, replies_to, rows_after}
use Rattle.book_laws.specs.CheckBook.{IsSound}
use Rattle.book_laws.specs.Reading.{reading, IsAnswer}
use Rattle.book_laws.specs.Text.{book_text}
use Rattle.book_laws.specs.declared.json_fault.JsonFault.{JsonFault}
use Rattle.book_laws.specs.declared.json_fault.JsonFault.TheVariants.{OutOfMemory}
use Rattle.app_laws.specs.Files.{IsReadAgain, IsReadFrom}

-- whoever opens the new book of a run over a sound book answers that book, or that memory ran out, and never a fault of the book
abbrev pub ReadsTodaysBook : Rows → List Frame → Result Rows JsonFault → Type 0
ReadsTodaysBook rows frames answer =
    IsSound rows → IsReadAgain (rows_after rows frames)
    → IsAnswer (reading (book_text (rows_after rows frames))) answer
    → (answer ≡ Ok (rows_after rows frames)) ⊎ (answer ≡ Err OutOfMemory)

-- The replies of two runs, one behind the other, and the book of the second are those of one run over both batches, where the second
-- opens the new book of the first.
abbrev pub AreOneRun : Rows → List Frame → List Frame → Rows → Type 0
AreOneRun rows today tomorrow opening =
    IsReadAgain (rows_after rows today) → IsReadFrom (rows_after rows today) opening
    → (replies_to rows (today ++ tomorrow) ≡ replies_to rows today ++ replies_to opening tomorrow)
    × (rows_after rows (today ++ tomorrow) ≡ rows_after opening tomorrow)
