-- The book that a text is, or its first fault.
use Rattle.std.specs.Prelude.{◌≡◌, ℕ, ◌==◌, List, [], ◌∷◌, Option, None, Result, Ok, Err, if◌then◌else◌, codes}
use Rattle.std.specs.FinMap as map
use Rattle.std.specs.Str.{is_utf8}
use Rattle.book_laws.specs.CheckBook.{IsSound, IsFirstFault}
use Rattle.issuer_rows.specs.Fold.{Rows}
use Rattle.serde_json.specs.Data.{Data}
use Rattle.serde_json.specs.Read.{read}
use Rattle.book_laws.specs.Fields.{has_keys, number_at}
use Rattle.book_laws.specs.Lists.{add_list}
use Rattle.book_laws.specs.Parts.{version_number}
use Rattle.book_laws.specs.Steps.{◌>>=◌, in_range, or_fault}
use Rattle.book_laws.specs.declared.book_version.BookVersion.{BookVersion}
use Rattle.book_laws.specs.declared.book_version.BookVersion.TheVariants.{One, Two, Three}
use Rattle.book_laws.specs.declared.text_fault.TextFault.{TextFault}
use Rattle.book_laws.specs.declared.text_fault.TextFault.TheVariants.{Syntax, Shape, Range}
use Rattle.book_laws.specs.declared.json_fault.JsonFault.{JsonFault}
use Rattle.book_laws.specs.declared.json_fault.JsonFault.TheVariants as fault
use Rattle.book_laws.specs.declared.part.Part.TheVariants as part
use Rattle.book_laws.specs.declared.row_list.RowList.{RowList}
use Rattle.book_laws.specs.declared.row_list.RowList.TheVariants.{Cards, Days, Budgets, Originals, Ahead, Accounts}

-- the keys of the top object
abbrev pub top_keys : BookVersion → List (List ℕ)
top_keys One = codes "budgets" ∷ codes "cards" ∷ codes "days" ∷ codes "originals" ∷ codes "version" ∷ []
top_keys Two = codes "ahead" ∷ codes "budgets" ∷ codes "cards" ∷ codes "days" ∷ codes "originals" ∷ codes "version" ∷ []
top_keys Three =
    codes "accounts" ∷ codes "ahead" ∷ codes "budgets" ∷ codes "cards" ∷ codes "days" ∷ codes "originals" ∷ codes "version" ∷ []

-- the version whose keys the top object has
abbrev pub version_of_keys : Data → Result BookVersion TextFault
version_of_keys top =
    if has_keys (top_keys Three) top then Ok Three
    else (if has_keys (top_keys Two) top then Ok Two
    else (if has_keys (top_keys One) top then Ok One else Err (Shape part.Top)))

-- the version: the one that is stated is that of the keys
abbrev pub version_of : Data → Result BookVersion TextFault
version_of top = do
  version ← version_of_keys top
  stated ← number_at part.Version (codes "version") top
  in_range (stated == version_number version) version

-- the rows with those of the lists, in their order
unfoldable pub add_lists : BookVersion → List RowList → Data → Rows → Result Rows TextFault
add_lists version [] top rows = Ok rows
add_lists version (list ∷ lists) top rows = do
  more ← add_list version list top rows
  add_lists version lists top more

-- the lists in the order of their parts
abbrev pub all_lists : List RowList
all_lists = Cards ∷ Days ∷ Budgets ∷ Originals ∷ Ahead ∷ Accounts ∷ []

-- the book that a JSON value is
unfoldable pub book_of : Data → Result Rows TextFault
book_of top = do
  version ← version_of top
  add_lists version all_lists top map.empty

-- the JSON value that serde_json reads from a text, which has to be UTF-8
abbrev pub value_of : List ℕ → Option Data
value_of text = if is_utf8 text then read text else None

-- the book that a text is, or its first fault. Whether the book is sound is asked behind it.
abbrev pub reading : List ℕ → Result Rows TextFault
reading text = or_fault Syntax (value_of text) >>= book_of

-- What a reader answers: a book that was read and is sound; of a book that was read and isn't, what is wrong with it first;
-- the first fault of a text that is no book; or memory ran out.
abbrev pub IsAnswer : Result Rows TextFault → Result Rows JsonFault → Type 0
IsAnswer read (Ok book) = (read ≡ Ok book) × IsSound book
IsAnswer read (Err (fault.Invalid wrong)) = (book : Rows) × (read ≡ Ok book) × IsFirstFault book wrong
IsAnswer read (Err fault.Syntax) = read ≡ Err Syntax
IsAnswer read (Err (fault.Shape part)) = read ≡ Err (Shape part)
IsAnswer read (Err fault.Range) = read ≡ Err Range
IsAnswer read (Err fault.OutOfMemory) = Unit {0}
