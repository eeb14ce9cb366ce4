-- A part that is decided, and parts that are put together, as files hold them.
use Rattle.std.specs.Prelude.{◌≡◌, ℕ, suc, List, [], ◌∷◌, ⊤, Some, Ok, length, map, slice_get}
use Rattle.sha2.specs.Sha256.{sha256}
use Rattle.book_laws.specs.Reading.{IsAnswer, reading}
use Rattle.book_laws.specs.Text.{book_text}
use Rattle.file_batch.specs.Words.{AreReplyBodies, Holding, IsBatchOf, IsReplyFileOf, replies_text}
use Rattle.issuer_words.specs.Words.{Frame, ReplyBody, Rows, replies_to, rows_after}
use Rattle.parts_books.specs.PartBooks.{AreInArrivalOrder, joined_books}
use Rattle.app_parts_folder.specs.PlanTexts.{IsPlan, Plan, decided_text, plan_text}
use Rattle.app_parts_folder.specs.declared.part_digests.PartDigests.{PartDigests}
use Rattle.app_parts_folder.specs.Names.{part_name, plan_name, rest_name}
use Rattle.app_parts_folder.specs.Texts.{AreHeld, IsHeld, Text}
use Rattle.app_parts_folder.specs.declared.join_names.JoinNames.{JoinNames}
use Rattle.app_parts_folder.specs.declared.part_file.PartFile.TheVariants.{Book, Batch, Replies, NewBook, Decided}

-- ---- a part is decided

-- the files of a part that is decided
abbrev pub decided_texts : List ℕ → ℕ → Plan → Rows → List Frame → List Text
decided_texts folder part plan rows frames =
    let replies = replies_text (replies_to rows frames) in
    let new_book = book_text (rows_after rows frames) in
    record { name = part_name folder part Replies; text = replies }
    ∷ record { name = part_name folder part NewBook; text = new_book }
    ∷ record { name = part_name folder part Decided; text = decided_text part (sha256 (plan_text plan)) (sha256 replies) (sha256 new_book) } ∷ []

-- The part's book and batch that the files of the folder held are those of the plan. They were decided one message after another, and the
-- files of the part hold the replies, the new book, and of which plan they are. Both are read again. So many messages it has.
pub record IsPartDecided (known : Type 0) (old new : Holding) (folder : List ℕ) (part count : ℕ) : Type 0 where
  pub plan : Plan
  pub is_plan : IsPlan plan
  pub plan_held : IsHeld known old (plan_name folder) (plan_text plan)
  pub digests : PartDigests
  pub planned : slice_get plan.digests part ≡ Some digests
  pub book : List ℕ
  pub book_held : IsHeld known old (part_name folder part Book) book
  pub of_book : sha256 book ≡ digests.book
  pub batch : List ℕ
  pub batch_held : IsHeld known old (part_name folder part Batch) batch
  pub of_batch : sha256 batch ≡ digests.batch
  pub rows : Rows
  pub opening : IsAnswer (reading book) (Ok rows)
  pub frames : List Frame
  pub messages : IsBatchOf batch frames
  pub counted : count ≡ length frames
  pub back : reading (book_text (rows_after rows frames)) ≡ Ok (rows_after rows frames)
  pub bodies : AreReplyBodies (replies_to rows frames)
  pub written : known → AreHeld new (decided_texts folder part plan rows frames)

-- ---- parts are put together

-- what the files of a decided part hold: the bytes of its replies and of its new book, and what these are
pub record Answer : Type 0 where
  pub replies_bytes : List ℕ
  pub replies : List ReplyBody
  pub book_bytes : List ℕ
  pub rows : Rows

-- The files of this part held this answer: its replies, its book, and that both are of the plan that has this digest.
pub record IsAnswerOf (known : Type 0) (holds : Holding) (folder plan : List ℕ) (part : ℕ) (answer : Answer) : Type 0 where
  pub replies_held : IsHeld known holds (part_name folder part Replies) answer.replies_bytes
  pub are : IsReplyFileOf answer.replies_bytes answer.replies
  pub book_held : IsHeld known holds (part_name folder part NewBook) answer.book_bytes
  pub opening : IsAnswer (reading answer.book_bytes) (Ok answer.rows)
  pub decided : IsHeld known holds (part_name folder part Decided) (decided_text part plan (sha256 answer.replies_bytes) (sha256 answer.book_bytes))

-- the same of this part and those behind it, in their order
abbrev pub AreAnswersFrom : Type 0 → Holding → List ℕ → List ℕ → ℕ → List Answer → Type 0
AreAnswersFrom known holds folder plan part [] = ⊤
AreAnswersFrom known holds folder plan part (answer ∷ answers) =
    IsAnswerOf known holds folder plan part answer × AreAnswersFrom known holds folder plan (suc part) answers

-- the names, as texts, of the folder, the replies and the new book
pub record Names : Type 0 where
  pub folder : List ℕ
  pub replies : List ℕ
  pub new_book : List ℕ

abbrev pub names_of : JoinNames → Names
names_of names = record { folder = names.folder.now; replies = names.replies.now; new_book = names.new_book.now }

-- what is written: the replies, and the book
abbrev pub joined_texts : Names → List ReplyBody → Rows → List Text
joined_texts names replies rows =
    record { name = names.replies; text = replies_text replies } ∷ record { name = names.new_book; text = book_text rows } ∷ []

-- what the folder holds: a plan, the rest of its book, and of each of its parts the answer
pub record IsFolder (known : Type 0) (holds : Holding) (folder : List ℕ) (plan : Plan) (rest : Rows) (answers : List Answer) : Type 0 where
  pub is_plan : IsPlan plan
  pub plan_held : IsHeld known holds (plan_name folder) (plan_text plan)
  pub book : List ℕ
  pub rest_held : IsHeld known holds (rest_name folder) book
  pub of_rest : sha256 book ≡ plan.rest
  pub opening : IsAnswer (reading book) (Ok rest)
  pub each : length answers ≡ length plan.digests
  pub are : AreAnswersFrom known holds folder (sha256 (plan_text plan)) 0 answers

-- The parts of the folder were put together: the files hold the replies in the order of arrival, and the rest with the books of the parts.
-- So many replies there are.
pub record IsJoined (known : Type 0) (old new : Holding) (names : Names) (count : ℕ) : Type 0 where
  pub plan : Plan
  pub rest : Rows
  pub answers : List Answer
  pub folder : IsFolder known old names.folder plan rest answers
  pub replies : List ReplyBody
  pub order : AreInArrivalOrder plan.parts (map (λ answer. answer.replies) answers) replies
  pub counted : count ≡ length replies
  pub bodies : AreReplyBodies replies
  pub back : reading (book_text (joined_books rest (map (λ answer. answer.rows) answers))) ≡ Ok (joined_books rest (map (λ answer. answer.rows) answers))
  pub written : known → AreHeld new (joined_texts names replies (joined_books rest (map (λ answer. answer.rows) answers)))
