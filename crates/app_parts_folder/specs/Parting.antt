-- A batch in parts, as files hold it.
use Rattle.std.specs.Prelude.{◌≡◌, ◌≤◌, ◌<◌, ℕ, List, [], ◌∷◌, ◌++◌, Ok, length, zip}
use Rattle.std.specs.FinMap as map
use Rattle.std.specs.List.{AllByRecursion, flat_map}
use Rattle.sha2.specs.Sha256.{sha256}
use Rattle.book_laws.specs.Reading.{IsAnswer, reading}
use Rattle.book_laws.specs.Text.{book_text}
use Rattle.file_batch.specs.Words.{AreFramesOf, Holding, batch_magic, batch_text, bodies_of}
use Rattle.issuer_laws.specs.Parts.{AreApart, Parted, of_part}
use Rattle.issuer_words.specs.Words.{Frame, Rows}
use Rattle.parts_books.specs.PartBooks.{each_part, part_rows, rest_rows}
use Rattle.app_parts_folder.specs.PlanTexts.{Plan, plan_text}
use Rattle.app_parts_folder.specs.declared.part_digests.PartDigests.{PartDigests}
use Rattle.app_parts_folder.specs.Names.{part_name, plan_name, rest_name}
use Rattle.app_parts_folder.specs.Texts.{AreHeld, IsHeld, Text}
use Rattle.app_parts_folder.specs.declared.part_count.PartCount.{PartCount}
use Rattle.app_parts_folder.specs.declared.part_file.PartFile.TheVariants.{Book, Batch}
use Rattle.app_parts_folder.specs.declared.part_names.PartNames.{PartNames}

-- a book, the bodies of a batch and what they are, and of so many parts that of each body
pub record Parting : Type 0 where
  pub rows : Rows
  pub bodies : List (List ℕ)
  pub frames : List Frame
  pub parts : List ℕ
  pub count : ℕ

abbrev pub parted : Parting → Parted
parted p = zip p.parts p.frames

-- what the files of a part hold: its book's text, and its bodies, as they are and in their order
abbrev pub book_of_part : Parting → ℕ → List ℕ
book_of_part p part = book_text (part_rows p.rows (parted p) part)

abbrev pub batch_of_part : Parting → ℕ → List ℕ
batch_of_part p part = batch_text (of_part part (zip p.parts p.bodies))

-- and the file of the rest
abbrev pub rest_of : Parting → List ℕ
rest_of p = book_text (rest_rows p.rows p.frames)

abbrev pub digests_of_part : Parting → ℕ → PartDigests
digests_of_part p part = record { book = sha256 (book_of_part p part); batch = sha256 (batch_of_part p part) }

-- the plan
abbrev pub plan_of_parting : Parting → Plan
plan_of_parting p = record { rest = sha256 (rest_of p); digests = each_part (digests_of_part p) p.count; parts = p.parts }

-- the files of a part
abbrev pub part_texts : List ℕ → Parting → ℕ → List Text
part_texts folder p part =
    record { name = part_name folder part Book; text = book_of_part p part }
    ∷ record { name = part_name folder part Batch; text = batch_of_part p part } ∷ []

-- those of so many parts
abbrev pub parts_texts : List ℕ → Parting → ℕ → List Text
parts_texts folder p count = flat_map (λ texts. texts) (each_part (part_texts folder p) count)

-- all files of the folder
abbrev pub folder_texts : List ℕ → Parting → List Text
folder_texts folder p =
    parts_texts folder p p.count
    ++ record { name = rest_name folder; text = rest_of p } ∷ record { name = plan_name folder; text = plan_text (plan_of_parting p) } ∷ []

-- how many messages and how many rows a part has
abbrev pub count_of_part : Parting → ℕ → PartCount
count_of_part p part = record { messages = length (of_part part (zip p.parts p.bodies)); rows = map.len (part_rows p.rows (parted p) part) }

-- each body is of one of at most so many parts, of which no two have messages that may need the same row
pub record IsPlanned (p : Parting) (most : ℕ) : Type 0 where
  pub some : 0 < p.count
  pub few : p.count ≤ most
  pub each : length p.parts ≡ length p.frames
  pub below : AllByRecursion (λ part. part < p.count) p.parts
  pub apart : AreApart p.rows (parted p)

-- the texts of the books are read again as the parts' books and the rest
pub record AreReadBack (p : Parting) : Type 0 where
  pub part : (part : ℕ) → part < p.count → reading (book_of_part p part) ≡ Ok (part_rows p.rows (parted p) part)
  pub rest : reading (rest_of p) ≡ Ok (rest_rows p.rows p.frames)

-- these bytes are a batch of these bodies and frames
abbrev pub IsCut : List ℕ → List (List ℕ) → List Frame → Type 0
IsCut bytes bodies frames = (bodies_of batch_magic bytes ≡ Ok bodies) × AreFramesOf bodies frames

-- the names, as texts, of the book, the batch and the folder
pub record Names : Type 0 where
  pub book : List ℕ
  pub batch : List ℕ
  pub folder : List ℕ

abbrev pub names_of : PartNames → Names
names_of names = record { book = names.book.now; batch = names.batch.now; folder = names.folder.now }

-- The book and the batch that the files held are in at most so many parts, and the files of the folder hold these.
pub record IsParted (known : Type 0) (old new : Holding) (names : Names) (most : ℕ) (counts : List PartCount) : Type 0 where
  pub parting : Parting
  pub book : List ℕ
  pub book_held : IsHeld known old names.book book
  pub opening : IsAnswer (reading book) (Ok parting.rows)
  pub batch : List ℕ
  pub batch_held : IsHeld known old names.batch batch
  pub cut : IsCut batch parting.bodies parting.frames
  pub planned : IsPlanned parting most
  pub counted : counts ≡ each_part (count_of_part parting) parting.count
  pub back : AreReadBack parting
  pub written : known → AreHeld new (folder_texts names.folder parting)
