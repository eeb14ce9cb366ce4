-- Answers of parts that are opened.
use Rattle.std.specs.Prelude.{◌≡◌, ◌≢◌, ◌⊎◌, ◌++◌, ℕ, List, Ok, map}
use Rattle.sha2.specs.Sha256.{sha256}
use Rattle.book_laws.specs.Reading.{IsAnswer, reading}
use Rattle.file_batch.specs.Words.{Failing, Holding}
use Rattle.issuer_words.specs.Words.{ReplyBody, Rows}
use Rattle.app_jobs.specs.Faults.{IsBookFault}
use Rattle.parts_books.specs.PartBooks.{AreInArrivalOrder}
use Rattle.app_parts_folder.specs.PlanTexts.{decided_head, decided_text}
use Rattle.app_parts_folder.specs.Faults.{HasNoFile, IsFaultOfPart}
use Rattle.app_parts_folder.specs.Joining.{Answer, AreAnswersFrom, IsAnswerOf}
use Rattle.app_parts_folder.specs.Names.{part_name, rest_name}
use Rattle.app_parts_folder.specs.Opening.{IsNoMemory}
use Rattle.app_parts_folder.specs.Texts.{IsHeld}
use Rattle.app_parts.specs.declared.answers.Answers.{Answers}
use Rattle.app_parts.specs.declared.answers.PartAnswer.{PartAnswer}
use Rattle.app_parts_folder.specs.declared.part_fault.PartFault.{PartFault}
use Rattle.app_parts_folder.specs.declared.part_fault.PartFault.TheVariants as why
use Rattle.app_parts_folder.specs.declared.part_file.PartFile.TheVariants.{Replies, NewBook, Decided}
use Rattle.app_parts_folder.specs.declared.parts_fault.PartsFault.{PartsFault}
use Rattle.app_parts_folder.specs.declared.parts_fault.PartsFault.TheVariants as fault

-- the rest of the folder, which has this digest
pub record IsRest (known : Type 0) (holds : Holding) (folder digest : List ℕ) (rest : Rows) : Type 0 where
  pub book : List ℕ
  pub rest_held : IsHeld known holds (rest_name folder) book
  pub of_rest : sha256 book ≡ digest
  pub opening : IsAnswer (reading book) (Ok rest)

-- why it isn't opened
abbrev pub IsRestFault : Holding → Failing → List ℕ → List ℕ → PartsFault → Type 0
IsRestFault holds failing folder digest (fault.Job job) = IsBookFault holds failing (rest_name folder) job
IsRestFault holds failing folder digest fault.OtherRest = (bytes : List ℕ) → holds (rest_name folder) bytes → sha256 bytes ≢ digest
IsRestFault holds failing folder digest _ = ⊥

-- replies of parts are put in no order
abbrev pub IsNoOrder : List ℕ → List (List ReplyBody) → PartsFault → Type 0
IsNoOrder parts lists (fault.Job job) = IsNoMemory job
IsNoOrder parts lists fault.Replies = (all : List ReplyBody) → ¬ AreInArrivalOrder parts lists all
IsNoOrder parts lists _ = ⊥

-- the files of this part held this answer
abbrev pub IsPartAnswer : Type 0 → Holding → List ℕ → List ℕ → ℕ → PartAnswer → Type 0
IsPartAnswer known holds folder plan part own =
    (answer : Answer) × IsAnswerOf known holds folder plan part answer × (own.replies.items ≡ answer.replies) × (own.book ≡ answer.rows)

-- the answers of the first parts, so far
pub record HaveAnswers (known : Type 0) (holds : Holding) (folder plan : List ℕ) (own : Answers) (answers : List Answer) : Type 0 where
  pub are : AreAnswersFrom known holds folder plan 0 answers
  pub replies : map (λ list. list.items) own.replies.items ≡ map (λ answer. answer.replies) answers
  pub books : own.books.items ≡ map (λ answer. answer.rows) answers

-- why a part's files aren't taken, under the plan of this digest
abbrev pub IsPartFault : Holding → Failing → List ℕ → List ℕ → ℕ → PartFault → Type 0
IsPartFault holds failing folder plan part why.Unreadable = HasNoFile holds failing folder part
IsPartFault holds failing folder plan part why.OtherPlan =
    (bytes behind : List ℕ) → holds (part_name folder part Decided) bytes → bytes ≢ decided_head part plan ++ behind
IsPartFault holds failing folder plan part why.OtherFiles =
    (bytes replies book : List ℕ) → holds (part_name folder part Decided) bytes → holds (part_name folder part Replies) replies
    → holds (part_name folder part NewBook) book → bytes ≢ decided_text part plan (sha256 replies) (sha256 book)
IsPartFault holds failing folder plan part _ = ⊥

-- why a part has no answer under the plan of this digest
abbrev pub IsNoAnswer : Holding → Failing → List ℕ → List ℕ → PartsFault → Type 0
IsNoAnswer holds failing folder plan (fault.Job job) = IsNoMemory job ⊎ IsFaultOfPart holds failing folder job
IsNoAnswer holds failing folder plan (fault.Part part why) = IsPartFault holds failing folder plan part why
IsNoAnswer holds failing folder plan _ = ⊥
