-- A part's bytes that are decided.
use Rattle.std.specs.Prelude.{◌≡◌, ℕ, List, [], ◌∷◌, Ok, Err, length}
use Rattle.sha2.specs.Sha256.{sha256}
use Rattle.book_laws.specs.Reading.{IsAnswer, reading}
use Rattle.book_laws.specs.Text.{book_text}
use Rattle.file_batch.specs.Words.{AreReplyBodies, IsBatchOf, replies_text}
use Rattle.issuer_words.specs.Words.{Frame, Rows, replies_to, rows_after}
use Rattle.app_jobs.specs.declared.job_fault.JobFault.{JobFault}
use Rattle.app_jobs.specs.declared.job_fault.JobFault.TheVariants as job
use Rattle.app_parts_folder.specs.PlanTexts.{decided_text}
use Rattle.app_parts_folder.specs.Names.{part_name}
use Rattle.app_parts_folder.specs.Planning.{IsBatchFaultOf}
use Rattle.app_parts_folder.specs.Texts.{Text}
use Rattle.app_parts_folder.specs.declared.part_file.PartFile.TheVariants.{Replies, NewBook, Decided}

-- these are the texts of the replies and of the book that a batch of these bytes, of so many messages, comes to on a book of these, one
-- message after another
pub record IsDecidedText (book batch replies new_book : List ℕ) (count : ℕ) : Type 0 where
  pub rows : Rows
  pub opening : IsAnswer (reading book) (Ok rows)
  pub frames : List Frame
  pub messages : IsBatchOf batch frames
  pub counted : count ≡ length frames
  pub replies_are : replies ≡ replies_text (replies_to rows frames)
  pub book_is : new_book ≡ book_text (rows_after rows frames)
  pub back : reading (book_text (rows_after rows frames)) ≡ Ok (rows_after rows frames)
  pub bodies : AreReplyBodies (replies_to rows frames)

-- why they come to nothing: the first fault of the book or of the batch, or memory ran out
abbrev pub IsDecidedFaultOf : List ℕ → List ℕ → JobFault → Type 0
IsDecidedFaultOf book batch (job.Book fault) = IsAnswer (reading book) (Err fault)
IsDecidedFaultOf book batch fault = IsBatchFaultOf batch fault

-- the files of a part that is decided
abbrev pub made_texts : List ℕ → ℕ → List ℕ → List ℕ → List ℕ → List Text
made_texts folder part plan replies new_book =
    record { name = part_name folder part Replies; text = replies }
    ∷ record { name = part_name folder part NewBook; text = new_book }
    ∷ record { name = part_name folder part Decided; text = decided_text part plan (sha256 replies) (sha256 new_book) } ∷ []
