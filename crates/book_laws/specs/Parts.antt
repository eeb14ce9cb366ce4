-- The parts of a book's text, its lists of rows, and its versions.
use Rattle.std.specs.Prelude.{ℕ, ◌==◌, Bool, true, false, List, codes}
use Rattle.issuer_rows.specs.declared.row_val.RowVal.{RowVal}
use Rattle.issuer_rows.specs.declared.row_val.RowVal.TheVariants as val
use Rattle.book_laws.specs.declared.book_version.BookVersion.{BookVersion}
use Rattle.book_laws.specs.declared.book_version.BookVersion.TheVariants.{One, Two, Three}
use Rattle.book_laws.specs.declared.part.Part.{Part}
use Rattle.book_laws.specs.declared.part.Part.TheVariants as part
use Rattle.book_laws.specs.declared.row_list.RowList.{RowList}
use Rattle.book_laws.specs.declared.row_list.RowList.TheVariants.{Cards, Days, Budgets, Originals, Ahead, Accounts}

-- a part's number in a fault
abbrev pub part_number : Part → ℕ
part_number part.Top = 0
part_number part.Version = 1
part_number part.Cards = 2
part_number part.Days = 3
part_number part.Budgets = 4
part_number part.Originals = 5
part_number part.Ahead = 6
part_number part.Accounts = 7

-- the part that a list is
abbrev pub list_part : RowList → Part
list_part Cards = part.Cards
list_part Days = part.Days
list_part Budgets = part.Budgets
list_part Originals = part.Originals
list_part Ahead = part.Ahead
list_part Accounts = part.Accounts

-- its key in the top object
abbrev pub list_key : RowList → List ℕ
list_key Cards = codes "cards"
list_key Days = codes "days"
list_key Budgets = codes "budgets"
list_key Originals = codes "originals"
list_key Ahead = codes "ahead"
list_key Accounts = codes "accounts"

-- the list that a row stands in, by what it holds
abbrev pub list_of : RowVal → RowList
list_of (val.Card row) = Cards
list_of (val.Velocity row) = Days
list_of (val.Budget row) = Budgets
list_of (val.Kept original) = Originals
list_of (val.Ahead mark) = Ahead
list_of (val.Account row) = Accounts

-- a row that holds this stands in the list
abbrev pub is_in : RowList → RowVal → Bool
is_in list held = part_number (list_part list) == part_number (list_part (list_of held))

-- the number that a version states
abbrev pub version_number : BookVersion → ℕ
version_number One = 1
version_number Two = 2
version_number Three = 3

-- versions 2 and 3 have marks of reversals that came ahead
abbrev pub has_marks : BookVersion → Bool
has_marks One = false
has_marks Two = true
has_marks Three = true

-- versions 1 and 2 keep a card's money with the card
abbrev pub has_card_money : BookVersion → Bool
has_card_money One = true
has_card_money Two = true
has_card_money Three = false

-- version 3 keeps it in accounts
abbrev pub has_accounts : BookVersion → Bool
has_accounts One = false
has_accounts Two = false
has_accounts Three = true

-- the version has the list
abbrev pub has_list : BookVersion → RowList → Bool
has_list version Cards = true
has_list version Days = true
has_list version Budgets = true
has_list version Originals = true
has_list version Ahead = has_marks version
has_list version Accounts = has_accounts version
