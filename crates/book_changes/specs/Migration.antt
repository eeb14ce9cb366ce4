-- What versions 1 and 2 say of money, and what the book has that is read from them.
use Rattle.std.specs.Prelude.{◌≡◌, ℕ, ◌+◌, Bool, true, false, ◌&&◌, List, [], ◌∷◌, option_and_then, unwrap_or, Result, Ok, Err, if◌then◌else◌}
use Rattle.std.specs.FinMap as map
use Rattle.std.specs.List.{AllByRecursion, sum_by}
use Rattle.issuer_words.specs.Words.{Identity, Pan, RowVal, Rows, backing_of_account, text_eq}
use Rattle.issuer_rows.specs.declared.row_val.RowVal.TheVariants as val
use Rattle.serde_json.specs.Data.{Data, Items, no_items, item}
use Rattle.serde_json.specs.Find.{get, as_array}
use Rattle.book_laws.specs.Cards.{old_card_of, own_account}
use Rattle.book_laws.specs.Originals.{original_entry_of}
use Rattle.book_laws.specs.Parts.{list_key, has_card_money}
use Rattle.book_laws.specs.Reading.{version_of, book_of}
use Rattle.book_laws.specs.declared.book_version.BookVersion.{BookVersion}
use Rattle.book_laws.specs.declared.old_card.OldCard.{OldCard}
use Rattle.book_laws.specs.declared.original_entry.OriginalEntry.{OriginalEntry}
use Rattle.book_laws.specs.declared.paid.Paid.{Paid}
use Rattle.book_laws.specs.declared.paid.Paid.TheVariants as paid
use Rattle.book_laws.specs.declared.row_list.RowList.{RowList}
use Rattle.book_laws.specs.declared.row_list.RowList.TheVariants.{Cards, Originals}
use Rattle.book_laws.specs.declared.text_fault.TextFault.{TextFault}

-- ---- before: what the text says

-- one more, if it was read
abbrev pub with_read : {A : Type 0} → Result A TextFault → List A → List A
with_read (Ok x) xs = x ∷ xs
with_read (Err e) xs = xs

-- what the entries are read as; of a text that is a book, each is
abbrev pub read_all : {A : Type 0} → (Data → Result A TextFault) → Items → List A
read_all read no_items = []
read_all read (item entry entries) = with_read (read entry) (read_all read entries)

-- the entries of a list of the top object
abbrev pub entries_in : RowList → Data → Items
entries_in list top = unwrap_or (option_and_then as_array (get (list_key list) top)) no_items

-- the cards, each with its own money
abbrev pub cards_in : Data → List OldCard
cards_in top = read_all old_card_of (entries_in Cards top)

-- the originals
abbrev pub originals_in : BookVersion → Data → List (Identity × OriginalEntry)
originals_in version top = read_all (original_entry_of version) (entries_in Originals top)

-- the card paid
abbrev pub is_card : Paid → Bool
is_card paid.Nothing = false
is_card paid.Card = true
is_card paid.Account = false
is_card paid.Budget = false

-- what stays paid of an original, if this card paid it
abbrev pub stay_from : Pan → Identity × OriginalEntry → ℕ
stay_from pan original = if is_card original.1.paid && text_eq original.1.pan.0 pan.0 then original.1.stay else 0

-- a card's backing: what is available, and what stays paid of the originals that it paid
abbrev pub card_backing : BookVersion → Data → OldCard → ℕ
card_backing version top card = card.available + sum_by (stay_from card.pan) (originals_in version top)

-- ---- after: what the book has

-- what is available of a row that is an account
abbrev pub available_of : RowVal → ℕ
available_of (val.Card row) = 0
available_of (val.Velocity row) = 0
available_of (val.Budget row) = 0
available_of (val.Kept original) = 0
available_of (val.Ahead mark) = 0
available_of (val.Account row) = row.available

-- what is available of all accounts
abbrev pub all_available : Rows → ℕ
all_available rows = sum_by (λ row. available_of row.1) (map.entries rows)

-- ---- both

-- a text of version 1 or 2 is read as this book
pub record IsMigrated (version : BookVersion) (top : Data) (rows : Rows) : Type 0 where
  pub stated : version_of top ≡ Ok version
  pub old : has_card_money version ≡ true
  pub read : book_of top ≡ Ok rows

-- what is available of all accounts is what was available of all cards
abbrev pub KeepsAvailable : BookVersion → Data → Rows → Type 0
KeepsAvailable version top rows = IsMigrated version top rows → all_available rows ≡ sum_by (λ card. card.available) (cards_in top)

-- what backs each card's own account is what backed the card
abbrev pub KeepsBackings : BookVersion → Data → Rows → Type 0
KeepsBackings version top rows =
    IsMigrated version top rows → AllByRecursion (λ card. backing_of_account rows (own_account card.pan) ≡ card_backing version top card) (cards_in top)
