-- Where the first fault of a book's text stands.
use Rattle.std.specs.Prelude.{◌≡◌, ◌⊎◌, ⊤, ℕ, false, List, [], ◌∷◌, ◌++◌, length, Some, None, Ok, Err, option_and_then, slice_get}
use Rattle.std.specs.FinMap as map
use Rattle.issuer_words.specs.Words.{RowKey, RowVal, Rows, Writes}
use Rattle.serde_json.specs.Data.{Data}
use Rattle.serde_json.specs.Find.{get, as_array}
use Rattle.serde_json.specs.View.{view, items_view}
use Rattle.serde_json.specs.declared.value.Value.{Value}
use Rattle.book_laws.specs.CheckBook.{IsFirstFault, has_accounts, has_paying_account, has_right_number}
use Rattle.book_laws.specs.JsonFault.{fault_of_text}
use Rattle.book_laws.specs.Lists.{rows_at, add_entry, add_entries}
use Rattle.book_laws.specs.Parts.{list_key, list_part}
use Rattle.book_laws.specs.Reading.{add_lists, all_lists, value_of, version_of}
use Rattle.book_laws.specs.declared.book_fault.BookFault.{BookFault}
use Rattle.book_laws.specs.declared.book_fault.BookFault.TheVariants.{CardNumber, OriginalWithoutAccount, OutOfRange, CardWithoutAccount}
use Rattle.book_laws.specs.declared.book_version.BookVersion.{BookVersion}
use Rattle.book_laws.specs.declared.json_fault.JsonFault.{JsonFault}
use Rattle.book_laws.specs.declared.json_fault.JsonFault.TheVariants as json
use Rattle.book_laws.specs.declared.row_list.RowList.{RowList}
use Rattle.book_laws.specs.declared.text_fault.TextFault.{TextFault}
use Rattle.book_places.specs.declared.book_place.BookPlace.{BookPlace}
use Rattle.book_places.specs.declared.book_place.BookPlace.TheVariants as place
use Rattle.book_places.specs.declared.wrong_book.WrongBook.{WrongBook}

-- ---- entries

-- all entries before the one of this number are read and have rows of their own, and this one isn't, or hasn't, with this fault
pub record IsFirstWrong (version : BookVersion) (list : RowList) (entries : List Value) (rows : Rows) (number : ℕ) (fault : TextFault) : Type 0 where
  pub before : List Value
  pub entry : Value
  pub behind : List Value
  pub cut : entries ≡ before ++ entry ∷ behind
  pub count : length before ≡ number
  pub with_them : Rows
  pub read : add_entries version list (items_view before) rows ≡ Ok with_them
  pub wrong : add_entry version list (view entry) with_them ≡ Err fault

-- the entry is read by itself, and this is its row
abbrev pub IsRowOf : BookVersion → RowList → Data → RowKey × RowVal → Type 0
IsRowOf version list entry row = (others : Writes) × (rows_at version list entry ≡ Ok (row ∷ others))

-- the row has this fault in a book of these rows
abbrev pub IsWrongRow : Rows → BookFault → RowKey → RowVal → Type 0
IsWrongRow rows CardNumber key val = has_right_number key ≡ false
IsWrongRow rows OriginalWithoutAccount key val = has_paying_account rows val ≡ false
IsWrongRow rows OutOfRange key val = ⊥
IsWrongRow rows CardWithoutAccount key val = has_accounts rows val ≡ false

-- the row of the entry of this number has this fault
pub record IsRowPlace (version : BookVersion) (list : RowList) (entries : List Value) (rows : Rows) (fault : BookFault) (number : ℕ) : Type 0 where
  pub entry : Value
  pub stands : slice_get entries number ≡ Some entry
  pub row : RowKey × RowVal
  pub is : IsRowOf version list (view entry) row
  pub wrong : IsWrongRow rows fault row.0 row.1

-- ---- lists

-- the entries of a list of the top object
abbrev pub AreEntries : Data → RowList → List Value → Type 0
AreEntries top list entries = option_and_then as_array (get (list_key list) top) ≡ Some (items_view entries)

-- of this list of the top object this is the first fault
abbrev pub IsInListAt : BookVersion → RowList → Data → Rows → JsonFault → BookPlace → Type 0
IsInListAt version list top rows fault (place.List of) =
    (of ≡ list) × (option_and_then as_array (get (list_key list) top) ≡ None) × (fault ≡ json.Shape (list_part list))
IsInListAt version list top rows fault (place.Entry of number wrong) =
    (of ≡ list) × ((entries : List Value) × AreEntries top list entries
    × ((read : TextFault) × (fault ≡ fault_of_text read) × IsFirstWrong version list entries rows number read))
IsInListAt version list top rows fault _ = ⊥

abbrev pub IsInList : BookVersion → RowList → Data → Rows → WrongBook → Type 0
IsInList version list top rows wrong = IsInListAt version list top rows wrong.fault wrong.place

-- of these lists some are read, and in the next one this is the first fault
pub record IsInLists (version : BookVersion) (lists : List RowList) (top : Data) (rows : Rows) (wrong : WrongBook) : Type 0 where
  pub before : List RowList
  pub list : RowList
  pub behind : List RowList
  pub cut : lists ≡ before ++ list ∷ behind
  pub with_them : Rows
  pub read : add_lists version before top rows ≡ Ok with_them
  pub is : IsInList version list top with_them wrong

-- ---- the text

-- the row has this fault in the book that was read
abbrev pub IsRowIn : BookVersion → Data → Rows → BookFault → BookPlace → Type 0
IsRowIn version top rows fault (place.Row list number wrong) = (entries : List Value) × AreEntries top list entries × IsRowPlace version list entries rows fault number
IsRowIn version top rows fault place.Backing = fault ≡ OutOfRange
IsRowIn version top rows fault _ = ⊥

-- a book that was read has this fault before all others, and its row has it
abbrev pub IsUnsoundAt : BookVersion → Data → Rows → JsonFault → BookPlace → Type 0
IsUnsoundAt version top rows (json.Invalid wrong) at = IsFirstFault rows wrong × IsRowIn version top rows wrong at
IsUnsoundAt version top rows _ at = ⊥

abbrev pub IsUnsound : BookVersion → Data → Rows → WrongBook → Type 0
IsUnsound version top rows wrong = IsUnsoundAt version top rows wrong.fault wrong.place

-- all lists are read, and this is the first fault of the book that they are
abbrev pub IsInBook : BookVersion → Data → WrongBook → Type 0
IsInBook version top wrong = (rows : Rows) × (add_lists version all_lists top map.empty ≡ Ok rows) × IsUnsound version top rows wrong

-- this is told of the top object
abbrev pub IsOfTop : BookPlace → Type 0
IsOfTop place.Keys = ⊤
IsOfTop place.Version = ⊤
IsOfTop _ = ⊥

-- the keys of the top object, or the version that it states, are wrong with this fault
pub record IsInVersion (top : Data) (wrong : WrongBook) : Type 0 where
  pub read : TextFault
  pub is : version_of top ≡ Err read
  pub fault : wrong.fault ≡ fault_of_text read
  pub told : IsOfTop wrong.place

-- of this JSON value it is the first fault: in its keys or its version; in a list; or in the book that it is
abbrev pub IsInTop : Data → WrongBook → Type 0
IsInTop top wrong =
    IsInVersion top wrong
    ⊎ ((version : BookVersion) × (version_of top ≡ Ok version)
    × (IsInLists version all_lists top map.empty wrong ⊎ IsInBook version top wrong))

-- this is told of a text that is no JSON
abbrev pub IsOfText : BookPlace → Type 0
IsOfText (place.Syntax line column) = ⊤
IsOfText _ = ⊥

-- this is the first fault of the text: it is no JSON, or the fault is that of its value
abbrev pub IsWrongBook : List ℕ → WrongBook → Type 0
IsWrongBook text wrong =
    ((value_of text ≡ None) × (wrong.fault ≡ json.Syntax) × IsOfText wrong.place)
    ⊎ ((top : Data) × (value_of text ≡ Some top) × IsInTop top wrong)
