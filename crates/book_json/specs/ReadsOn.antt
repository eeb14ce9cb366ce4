-- A text that is read from its beginning on: what is known of it while some of it is left.
use Rattle.std.specs.Prelude.{◌≡◌, ◌<◌, ℕ, List, [], Bool, Ok, map}
use Rattle.std.specs.List.{AllByRecursion}
use Rattle.issuer_words.specs.Words.{RowKey, RowVal, Rows, overlay}
use Rattle.book_laws.specs.Lists.{AreNew}
use Rattle.book_laws.specs.Reading.{reading}
use Rattle.book_laws.specs.Text.{IsReadAgain, rows_of}
use Rattle.book_laws.specs.declared.row_list.RowList.{RowList}
use Rattle.book_laws.specs.declared.row_list.RowList.TheVariants.{Cards, Days, Budgets, Originals, Ahead, Accounts}
use Rattle.book_text.specs.Left.{text_left}
use Rattle.book_json.specs.declared.book_reader.BookReader.{BookReader}
use Rattle.book_json.specs.declared.row.Row.{Row}

-- rows that were read, as keys and values
abbrev pub pairs_of : List Row → List (RowKey × RowVal)
pairs_of rows = map (λ row. (row.key, row.val)) rows

-- which list of the text a list is, from 0
abbrev pub list_place : RowList → ℕ
list_place Accounts = 0
list_place Ahead = 1
list_place Budgets = 2
list_place Cards = 3
list_place Days = 4
list_place Originals = 5

-- none of the rows stands in a list before this one
abbrev pub NoneBefore : RowList → List (RowKey × RowVal) → Type 0
NoneBefore list rows = (earlier : RowList) → list_place earlier < list_place list → rows_of earlier rows ≡ []

-- Whatever rows are left, from this list on: if what is left of the text is theirs, the whole text is read as the book with them.
abbrev pub ReadsOn : List ℕ → List ℕ → RowList → Bool → Rows → Type 0
ReadsOn bytes rest list later book =
    (rows : List (RowKey × RowVal)) → AreNew book rows → AllByRecursion IsReadAgain rows → NoneBefore list rows → rest ≡ text_left later list rows rows
    → reading bytes ≡ Ok (overlay book rows)

-- that of what a reader has left
abbrev pub ReadsOnBy : List ℕ → BookReader → Type 0
ReadsOnBy bytes reader = ReadsOn bytes reader.rest.now reader.list reader.later reader.book

-- a reader that is further on in the same text
abbrev pub IsFurther : BookReader → BookReader → Type 0
IsFurther old new = (bytes : List ℕ) → ReadsOnBy bytes old → ReadsOnBy bytes new

-- each row was new in the book, which now has them all
pub record TakesRows (rows : List (RowKey × RowVal)) (old new : Rows) : Type 0 where
  pub were_new : AreNew old rows
  pub again : AllByRecursion IsReadAgain rows
  pub book : new ≡ overlay old rows
