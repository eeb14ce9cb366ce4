-- That a batch in parts is the whole batch.
use Rattle.std.specs.Prelude.{◌≡◌, ◌≢◌, ℕ, ◌<◌, List, None, map}
use Rattle.std.specs.FinMap as map
use Rattle.std.specs.List.{AllByRecursion}
use Rattle.issuer_words.specs.Words.{AccountId, Frame, IsWithin, RowKey, Rows, replies_to, rows_after}
use Rattle.issuer_laws.specs.Parts.{Parted, bodies, IsOfPart, AreApart}
use Rattle.book_laws.specs.CheckBook.{IsSound}
use Rattle.engine_parts.specs.TwoBooks.{joined}
use Rattle.parts_books.specs.PartBooks.{rows_for, part_rows, rest_rows, part_replies, part_rows_after, each_part, joined_books, AreInArrivalOrder}

-- Parts 0 to count - 1, each decided alone on its book, are put together: their replies in the order of arrival are those of the whole
-- batch, and the rest with the books behind the parts is the book behind the whole batch.
pub record AreTheWhole (rows : Rows) (ms : Parted) (count : ℕ) : Type 0 where
  pub replies : AreInArrivalOrder (map (λ m. m.0) ms) (each_part (part_replies rows ms) count) (replies_to rows (bodies ms))
  pub book : joined_books (rest_rows rows (bodies ms)) (each_part (part_rows_after rows ms) count) ≡ rows_after rows (bodies ms)

-- where no two parts may need the same row, and each message is of one of so many parts
abbrev pub MakeTheWhole : Rows → Parted → ℕ → Type 0
MakeTheWhole rows ms count = AreApart rows ms → AllByRecursion (λ m. m.0 < count) ms → AreTheWhole rows ms count

-- the key is an account's
abbrev pub IsOfAccount : RowKey → Type 0
IsOfAccount k = (id : AccountId) × (k ≡ RowKey.Account id)

-- Where the rows of a book are: each row that a message may need is in the book of its part, each other one in the rest, the same there;
-- no book has a row that the book hasn't; and what stands in two of them is an account.
pub record HaveTheRows (rows : Rows) (ms : Parted) : Type 0 where
  pub needed : (p : ℕ) (k : RowKey) → IsOfPart rows ms p k → map.get (part_rows rows ms p) k ≡ map.get rows k
  pub left : (k : RowKey) → ((p : ℕ) → IsOfPart rows ms p k → ⊥) → map.get (rest_rows rows (bodies ms)) k ≡ map.get rows k
  pub of_part : (p : ℕ) → IsWithin (part_rows rows ms p) rows
  pub of_rest : IsWithin (rest_rows rows (bodies ms)) rows
  pub two_parts : AreApart rows ms → (p q : ℕ) (k : RowKey) → p ≢ q → map.get (part_rows rows ms p) k ≢ None → map.get (part_rows rows ms q) k ≢ None → IsOfAccount k
  pub part_and_rest : (p : ℕ) (k : RowKey) → map.get (part_rows rows ms p) k ≢ None → map.get (rest_rows rows (bodies ms)) k ≢ None → IsOfAccount k

-- where nothing is wrong with the book, nothing is wrong with the parts' books nor with the rest
abbrev pub LeavesPartsSound : Rows → Parted → Type 0
LeavesPartsSound rows ms = IsSound rows → ((p : ℕ) → IsSound (part_rows rows ms p)) × IsSound (rest_rows rows (bodies ms))

-- replies of parts are put in the order of arrival in one way
abbrev pub IsOneOrder : {A : Type 0} → List ℕ → List (List A) → List A → List A → Type 0
IsOneOrder parts lists one other = AreInArrivalOrder parts lists one → AreInArrivalOrder parts lists other → one ≡ other

-- Messages are decided on the rows for them as on the whole book: their replies are the same, and the rows behind them, written over the
-- book, are the book behind them.
pub record AreEnough (rows : Rows) (frames : List Frame) : Type 0 where
  pub replies : replies_to (rows_for rows frames) frames ≡ replies_to rows frames
  pub book : joined rows (rows_after (rows_for rows frames) frames) ≡ rows_after rows frames
