-- The text of a book, version 3: compact JSON, the keys of each object in byte order, the rows of each list in key order.
use Rattle.std.specs.Prelude.{◌≡◌, ◌<◌, ◌≤◌, ◌^◌, ℕ, List, [], ◌∷◌, ◌++◌, Bool, Option, Some, None, Ok, codes, fold, ⊤}
use Rattle.std.specs.List.{filter}
use Rattle.std.specs.FinMap as map
use Rattle.std.specs.Str.{IsUtf8}
use Rattle.issuer_words.specs.Words.{AccountId, AccountRow, Approval, BudgetRow, CardRow, Identity, Mark, Pan, PanPrefix, RowKey, RowVal, Rows, VelocityRow, fixed_digits}
use Rattle.json.specs.Print.{ends, print_from}
use Rattle.json.specs.Token.{Token}
use Rattle.json.specs.Tree.{json_tokens, depth}
use Rattle.issuer_rows.specs.declared.row_key.RowKey.TheVariants as key
use Rattle.issuer_rows.specs.declared.row_val.RowVal.TheVariants as val
use Rattle.serde_json.specs.Data.{Data, null, boolean, number, unsigned, negative, float, string, array, object, Items, no_items, item, Members, no_members, member}
use Rattle.serde_json.specs.Read.{of_json}
use Rattle.serde_json.specs.Written.{compact_text, outline}
use Rattle.book_laws.specs.Lists.{entry_of}
use Rattle.book_laws.specs.Originals.{entry_of_kept}
use Rattle.book_laws.specs.Parts.{list_key, list_of, is_in}
use Rattle.book_laws.specs.Words.{status_word, mode_word, kind_word, paid_word}
use Rattle.book_laws.specs.declared.book_version.BookVersion.TheVariants.{Three}
use Rattle.book_laws.specs.declared.original_entry.OriginalEntry.{OriginalEntry}
use Rattle.book_laws.specs.declared.row_list.RowList.{RowList}
use Rattle.book_laws.specs.declared.row_list.RowList.TheVariants.{Cards, Days, Budgets, Originals, Ahead, Accounts}

-- a number
abbrev pub numeral : ℕ → Data
numeral n = number (unsigned n)

-- members, each with its key
abbrev pub members : List (List ℕ × Data) → Members
members [] = no_members
members (m ∷ ms) = member m.0 m.1 (members ms)

-- null where there is nothing
abbrev pub optional_data : {A : Type 0} → (A → Data) → Option A → Data
optional_data data_of None = null
optional_data data_of (Some x) = data_of x

-- the name of an account
abbrev pub account_id_data : AccountId → Data
account_id_data id = string id.0

-- an approval code
abbrev pub approval_data : Approval → Data
approval_data code = string code.0

-- the identity of a reversal
abbrev pub identity_data : Identity → Data
identity_data identity =
    object (members (
    (codes "acquirer", string identity.acquirer.0)
    ∷ (codes "stamp", string identity.stamp)
    ∷ (codes "trace", string identity.stan.0)
    ∷ []))

-- ---- entries

-- a card
abbrev pub card_data : Pan → CardRow → Data
card_data pan card =
    object (members (
    (codes "account", account_id_data card.accounts.first)
    ∷ (codes "approvals", numeral card.approvals)
    ∷ (codes "day_amount", numeral card.day_amount)
    ∷ (codes "day_count", numeral card.day_count)
    ∷ (codes "expiry", string card.expiry)
    ∷ (codes "pan", string pan.0)
    ∷ (codes "second", optional_data account_id_data card.accounts.second)
    ∷ (codes "status", string (status_word card.status))
    ∷ []))

-- what was spent with a card on a day
abbrev pub day_data : Pan → List ℕ → VelocityRow → Data
day_data pan day row =
    object (members (
    (codes "count", numeral row.count)
    ∷ (codes "day", string day)
    ∷ (codes "pan", string pan.0)
    ∷ (codes "sum", numeral row.sum)
    ∷ []))

-- a stand-in budget
abbrev pub budget_data : PanPrefix → BudgetRow → Data
budget_data prefix row =
    object (members (
    (codes "cap", numeral row.cap)
    ∷ (codes "left", numeral row.left)
    ∷ (codes "mode", string (mode_word row.mode))
    ∷ (codes "prefix", string prefix.0)
    ∷ []))

-- an original that was decided
abbrev pub original_data : Identity → OriginalEntry → Data
original_data identity e =
    object (members (
    (codes "account", optional_data account_id_data e.account)
    ∷ (codes "acquirer", string identity.acquirer.0)
    ∷ (codes "action", string (fixed_digits 3 e.action))
    ∷ (codes "amount", numeral e.amount)
    ∷ (codes "approval", optional_data approval_data e.approval)
    ∷ (codes "kind", string (kind_word e.kind))
    ∷ (codes "paid", string (paid_word e.paid))
    ∷ (codes "pan", string e.pan.0)
    ∷ (codes "processing", string e.processing.0)
    ∷ (codes "reversed", optional_data identity_data e.reversed)
    ∷ (codes "stamp", string identity.stamp)
    ∷ (codes "stay", numeral e.stay)
    ∷ (codes "trace", string identity.stan.0)
    ∷ []))

-- an original whose reversal came ahead of it
abbrev pub mark_data : Identity → Mark → Data
mark_data identity mark =
    object (members (
    (codes "acquirer", string identity.acquirer.0)
    ∷ (codes "kind", string (kind_word mark.kind))
    ∷ (codes "pan", string mark.card.0)
    ∷ (codes "reversal", identity_data mark.reversal)
    ∷ (codes "stamp", string identity.stamp)
    ∷ (codes "trace", string identity.stan.0)
    ∷ []))

-- an account
abbrev pub account_data : AccountId → AccountRow → Data
account_data id row =
    object (members (
    (codes "available", numeral row.available)
    ∷ (codes "currency", string row.currency.0)
    ∷ (codes "id", account_id_data id)
    ∷ []))

-- the entry of a row; a book has no row whose value is not of its key's kind
abbrev pub entry_data : RowKey → RowVal → Data
entry_data (key.Card pan) (val.Card row) = card_data pan row
entry_data (key.Velocity pan day) (val.Velocity row) = day_data pan day row
entry_data (key.Budget prefix) (val.Budget row) = budget_data prefix row
entry_data (key.Original identity) (val.Kept k) = original_data identity (entry_of_kept k)
entry_data (key.Original identity) (val.Ahead mark) = mark_data identity mark
entry_data (key.Account id) (val.Account row) = account_data id row
entry_data _ _ = null

-- ---- lists and the book

-- the entries of rows
abbrev pub items_data : List (RowKey × RowVal) → Items
items_data [] = no_items
items_data (row ∷ rows) = item (entry_data row.0 row.1) (items_data rows)

-- the rows of a list
abbrev pub rows_of : RowList → List (RowKey × RowVal) → List (RowKey × RowVal)
rows_of list rows = filter (λ row. is_in list row.1) rows

-- a list
abbrev pub list_data : RowList → List (RowKey × RowVal) → Data
list_data list rows = array (items_data (rows_of list rows))

-- the top object of a text that has these rows
abbrev pub top_data : List (RowKey × RowVal) → Data
top_data rows =
    object (members (
    (list_key Accounts, list_data Accounts rows)
    ∷ (list_key Ahead, list_data Ahead rows)
    ∷ (list_key Budgets, list_data Budgets rows)
    ∷ (list_key Cards, list_data Cards rows)
    ∷ (list_key Days, list_data Days rows)
    ∷ (list_key Originals, list_data Originals rows)
    ∷ (codes "version", numeral 3)
    ∷ []))

-- that of a book
abbrev pub book_data : Rows → Data
book_data rows = top_data (map.entries rows)

-- the text of a book
abbrev pub book_text : Rows → List ℕ
book_text rows = compact_text (book_data rows)

-- ---- for private clauses: what is written, token by token

-- a text of JSON that grows, and whether a value just ended there, so that a comma stands before the next one
pub record JsonText : Type 0 where
  pub text : List ℕ
  pub after_value : Bool

-- whether a value just ended behind these tokens, where it is known whether one ended before them
abbrev pub ends_after : Bool → List Token → Bool
ends_after later tokens = fold (λ _ token. ends token) later tokens

-- these tokens were written behind the old text
pub record Adds (old new : JsonText) (added : List Token) : Type 0 where
  pub written : new.text ≡ old.text ++ print_from old.after_value added
  pub after : new.after_value ≡ ends_after old.after_value added

-- the tokens of a value
abbrev pub tokens_of : Data → List Token
tokens_of d = json_tokens (outline d)

-- an entry that is read again as its row: its numbers are whole and fit, and its fields are in range
pub record ReadsBack (list : RowList) (row : RowKey × RowVal) : Type 0 where
  pub value : of_json (outline (entry_data row.0 row.1)) ≡ Some (entry_data row.0 row.1)
  pub depth : depth (outline (entry_data row.0 row.1)) ≤ 2
  pub entry : entry_of Three list (entry_data row.0 row.1) ≡ Ok row

-- a value whose text is read again: its numbers are whole and have at most 64 bits, and its texts are UTF-8
abbrev mutual
  pub IsPlain : Data → Type 0
  IsPlain null = ⊤
  IsPlain (boolean b) = ⊤
  IsPlain (number (unsigned n)) = n < 2 ^ 64
  IsPlain (number (negative z)) = ⊥
  IsPlain (number (float x)) = ⊥
  IsPlain (string s) = IsUtf8 s
  IsPlain (array ds) = AreItemsPlain ds
  IsPlain (object ms) = AreMembersPlain ms

  pub AreItemsPlain : Items → Type 0
  AreItemsPlain no_items = ⊤
  AreItemsPlain (item d ds) = IsPlain d × AreItemsPlain ds

  pub AreMembersPlain : Members → Type 0
  AreMembersPlain no_members = ⊤
  AreMembersPlain (member k d ms) = IsUtf8 k × IsPlain d × AreMembersPlain ms

-- a row whose entry is read again as the row, and whose entry's text as the entry
pub record IsReadAgain (row : RowKey × RowVal) : Type 0 where
  pub back : ReadsBack (list_of row.1) row
  pub plain : IsPlain (entry_data row.0 row.1)
