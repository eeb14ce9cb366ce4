-- A batch that is put in parts, decided part by part, and put together.
use Rattle.std.specs.Prelude.{◌≡◌, ◌<◌, ℕ, List, Ok, map}
use Rattle.book_laws.specs.Reading.{reading}
use Rattle.book_laws.specs.Text.{book_text}
use Rattle.file_batch.specs.Words.{AreReplyBodies, Holding, replies_text}
use Rattle.issuer_words.specs.Words.{ReplyBody, Rows, replies_to, rows_after}
use Rattle.parts_books.specs.PartBooks.{joined_books, part_replies, part_rows_after}
use Rattle.app_parts_folder.specs.PlanTexts.{plan_text}
use Rattle.app_parts_folder.specs.Joining.{IsJoined, Names}
use Rattle.app_parts_folder.specs.Names.{part_name, plan_name, rest_name}
use Rattle.app_parts_folder.specs.Parting.{AreReadBack, IsPlanned, Parting, parted, plan_of_parting, rest_of}
use Rattle.app_parts_folder.specs.declared.part_file.PartFile.TheVariants.{NewBook, Replies}

-- The files of the folder hold the plan and the rest that `part` writes, and of each part the replies and the new book of deciding its
-- messages one after another on its book, which whatever decides so writes; and all of these are read again.
pub record HoldsRun (holds : Holding) (folder : List ℕ) (most : ℕ) (p : Parting) : Type 0 where
  pub planned : IsPlanned p most
  pub plan : holds (plan_name folder) (plan_text (plan_of_parting p))
  pub rest : holds (rest_name folder) (rest_of p)
  pub back : AreReadBack p
  pub replies : (part : ℕ) → part < p.count → holds (part_name folder part Replies) (replies_text (part_replies p.rows (parted p) part))
  pub bodies : (part : ℕ) → part < p.count → AreReplyBodies (part_replies p.rows (parted p) part)
  pub book : (part : ℕ) → part < p.count → holds (part_name folder part NewBook) (book_text (part_rows_after p.rows (parted p) part))
  pub book_back : (part : ℕ) → part < p.count → reading (book_text (part_rows_after p.rows (parted p) part)) ≡ Ok (part_rows_after p.rows (parted p) part)

-- What was put together are the replies to the whole batch, one message after another, and the book behind it.
pub record IsOneRun (p : Parting) (replies : List ReplyBody) (book : Rows) : Type 0 where
  pub replies_are : replies ≡ replies_to p.rows p.frames
  pub book_is : book ≡ rows_after p.rows p.frames

-- where the files hold such a run of at most 64 parts, and `join` puts it together
abbrev pub JoinsOneRun : Type 0 → Holding → Holding → Names → Parting → Type 0
JoinsOneRun known old new names p =
    HoldsRun old names.folder 64 p → (count : ℕ) (joined : IsJoined known old new names count)
    → IsOneRun p joined.replies (joined_books joined.rest (map (λ answer. answer.rows) joined.answers))
