-- The texts of parts, as far as they are made.
use Rattle.std.specs.Prelude.{◌≡◌, ◌<◌, ℕ, ◌+◌, List, length, slice_index_or, Ok, Option, IfSome}
use Rattle.book_laws.specs.Reading.{reading}
use Rattle.parts_books.specs.PartBooks.{each_part, part_rows}
use Rattle.app_parts_folder.specs.Parting.{Parting, book_of_part, batch_of_part, count_of_part, digests_of_part, parted, parts_texts}
use Rattle.app_parts_folder.specs.Texts.{texts_of}
use Rattle.app_parts_folder.specs.declared.making.MadeParts.{MadeParts}
use Rattle.app_parts_folder.specs.declared.making.OnePart.{OnePart}

-- the texts of so many parts, their digests, and how much each has; the books' texts are read again
pub record AreMade (folder : List ℕ) (p : Parting) (count : ℕ) (made : MadeParts) : Type 0 where
  pub texts : texts_of made.texts.items ≡ parts_texts folder p count
  pub digests : made.digests.items ≡ each_part (digests_of_part p) count
  pub counts : made.counts.items ≡ each_part (count_of_part p) count
  pub back : (part : ℕ) → part < count → reading (book_of_part p part) ≡ Ok (part_rows p.rows (parted p) part)

-- what is told of one part
pub record IsMade (p : Parting) (part : ℕ) (one : OnePart) : Type 0 where
  pub book : one.book.items ≡ book_of_part p part
  pub batch : one.batch.items ≡ batch_of_part p part
  pub digests : one.digests ≡ digests_of_part p part
  pub count : one.count ≡ count_of_part p part
  pub back : reading (book_of_part p part) ≡ Ok (part_rows p.rows (parted p) part)

-- what is told of parts from this one on, as far as each is made
abbrev pub AreMadeFrom : Parting → ℕ → List (Option OnePart) → Type 0
AreMadeFrom p first ones = (place : ℕ) (other : Option OnePart) → place < length ones → IfSome (slice_index_or ones place other) (IsMade p (first + place))
