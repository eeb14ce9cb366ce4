-- Why a message was answered so, by what the files of the book and the batch hold.
use Rattle.std.specs.Prelude.{◌≡◌, ◌⊎◌, ◌≤◌, ⊤, ℕ, List, Option, length}
use Rattle.std.specs.Io.KnownBytes.{Appends}
use Rattle.file_laws.specs.Frames.{IsBatchOf}
use Rattle.file_devices.specs.Failing.{Failing}
use Rattle.file_devices.specs.Holding.{Holding, IsThere}
use Rattle.issuer_words.specs.Words.{Frame, Rows}
use Rattle.issuer_reasons.specs.Explained.{ExplainsAt}
use Rattle.issuer_reasons.specs.declared.explanation.Explanation.{Explanation}
use Rattle.app_jobs.specs.Decided.{IsBookOf}
use Rattle.app_jobs.specs.Faults.{IsBatchFault, IsBookFault, IsSomeBook}
use Rattle.reason_json.specs.Lines.{why_line}
use Rattle.reason_text.specs.Lines.{lines_of}
use Rattle.app_words.specs.declared.form.Form.{Form}
use Rattle.app_words.specs.declared.form.Form.TheVariants.{Lines, Json}
use Rattle.app_reports.specs.declared.why_asking.WhyAsked.{WhyAsked}
use Rattle.app_reports.specs.declared.why_asking.WhyAsked.TheVariants.{Message, Messages, Help, Wrong}
use Rattle.app_reports.specs.Sought.{sought_lines}
use Rattle.app_reports.specs.declared.sought.Sought.{Sought}
use Rattle.app_reports.specs.declared.why_fault.WhyFault.{WhyFault}
use Rattle.app_reports.specs.declared.why_fault.WhyFault.TheVariants.{Job, Index}

-- The message at this place of the batch of this name is explained, on the book of this name. Where it is known what files hold, both were
-- there.
pub record IsWhy (known : Type 0) (holds : Holding) (book batch : List ℕ) (index : ℕ) (e : Explanation) : Type 0 where
  pub rows : Rows
  pub frames : List Frame
  pub book_there : known → IsThere holds book
  pub batch_there : known → IsThere holds batch
  pub opening : IsBookOf holds book rows
  pub messages : (bytes : List ℕ) → holds batch bytes → IsBatchOf bytes frames
  pub explained : ExplainsAt rows frames index e

-- the batch of this name has so many messages, and none at this place
pub record HasNone (holds : Holding) (batch : List ℕ) (index count : ℕ) : Type 0 where
  pub frames : List Frame
  pub messages : (bytes : List ℕ) → holds batch bytes → IsBatchOf bytes frames
  pub counted : count ≡ length frames
  pub none : count ≤ index

-- Why it isn't explained: the first fault of the book; or, behind a sound book, of the batch; or, behind both, that the batch has no such
-- message; or a call on one of the files failed, or memory ran out.
abbrev pub IsWhyFault : Holding → Failing → List ℕ → List ℕ → ℕ → WhyFault → Type 0
IsWhyFault holds failing book batch index (Job fault) =
    IsBookFault holds failing book fault ⊎ (IsSomeBook holds book × IsBatchFault holds failing batch fault)
IsWhyFault holds failing book batch index (Index count) = IsSomeBook holds book × HasNone holds batch index count

-- the exit status of a fault
abbrev pub status_of_fault : WhyFault → ℕ
status_of_fault (Job fault) = 1
status_of_fault (Index count) = 2

-- These are the lines of the messages that are sought in the batch of this name. Where it is known what files hold, it was there.
pub record AreLines (known : Type 0) (holds : Holding) (batch : List ℕ) (sought : Sought) (form : Form) (text : List ℕ) : Type 0 where
  pub frames : List Frame
  pub batch_there : known → IsThere holds batch
  pub messages : (bytes : List ℕ) → holds batch bytes → IsBatchOf bytes frames
  pub lines : text ≡ sought_lines form sought 0 frames

-- an explanation in this form
abbrev pub explanation_text : Form → ℕ → Explanation → List ℕ
explanation_text Lines index e = lines_of index e
explanation_text (Json cards) index e = why_line cards index e

-- What is asked for is said, behind what was said before: of a message its lines; of messages that are sought the line of each.
abbrev pub IsSaid : Type 0 → Holding → WhyAsked → Option (List ℕ) → Option (List ℕ) → Type 0
IsSaid known holds (Message book batch index form) before after =
    (e : Explanation) × IsWhy known holds book.now batch.now index e × Appends before after (explanation_text form index e)
IsSaid known holds (Messages batch sought form) before after =
    (text : List ℕ) × AreLines known holds batch.now sought form text × Appends before after text
IsSaid known holds Help before after = ⊤
IsSaid known holds Wrong before after = ⊥
