-- Lists of entries, each of them a row.
use Rattle.std.specs.Prelude.{◌≡◌, Bool, false, [], ◌∷◌, None, option_and_then, Result, Ok, Err, if◌then◌else◌, is_some}
use Rattle.std.specs.FinMap as map
use Rattle.issuer_words.specs.Words.{RowKey, RowVal, Rows, Writes, overlay}
use Rattle.issuer_rows.specs.declared.row_key.RowKey.TheVariants as key
use Rattle.issuer_rows.specs.declared.row_val.RowVal.TheVariants as val
use Rattle.serde_json.specs.Data.{Data, Items, no_items, item}
use Rattle.serde_json.specs.Find.{get, as_array}
use Rattle.book_laws.specs.Cards.{card_of, old_card_of, migrated_card}
use Rattle.book_laws.specs.Entries.{day_of, budget_of, mark_of, account_of}
use Rattle.book_laws.specs.Originals.{original_of}
use Rattle.book_laws.specs.Parts.{list_part, list_key, has_card_money, has_list}
use Rattle.book_laws.specs.Steps.{◌>>=◌, or_fault}
use Rattle.book_laws.specs.declared.book_version.BookVersion.{BookVersion}
use Rattle.book_laws.specs.declared.text_fault.TextFault.{TextFault}
use Rattle.book_laws.specs.declared.text_fault.TextFault.TheVariants.{Shape}
use Rattle.book_laws.specs.declared.row_list.RowList.{RowList}
use Rattle.book_laws.specs.declared.row_list.RowList.TheVariants.{Cards, Days, Budgets, Originals, Ahead, Accounts}

-- a card's row
abbrev pub card_row_of : Data → Result (RowKey × RowVal) TextFault
card_row_of entry = do
  card ← card_of entry
  Ok (key.Card card.0, val.Card card.1)

-- the row that an entry of a list is
abbrev pub entry_of : BookVersion → RowList → Data → Result (RowKey × RowVal) TextFault
entry_of version Cards entry = card_row_of entry
entry_of version Days entry = day_of entry
entry_of version Budgets entry = budget_of entry
entry_of version Originals entry = original_of version entry
entry_of version Ahead entry = mark_of entry
entry_of version Accounts entry = account_of entry

-- the list has cards with their own money
abbrev pub has_old_cards : BookVersion → RowList → Bool
has_old_cards version Cards = has_card_money version
has_old_cards version Days = false
has_old_cards version Budgets = false
has_old_cards version Originals = false
has_old_cards version Ahead = false
has_old_cards version Accounts = false

-- the rows that an entry of a list becomes: itself, and behind a card with its own money the card's own account
abbrev pub rows_at : BookVersion → RowList → Data → Result Writes TextFault
rows_at version list entry =
    if has_old_cards version list then (old_card_of entry >>= λ card. Ok (migrated_card card)) else (entry_of version list entry >>= λ row. Ok (row ∷ []))

-- one more row, unless an earlier entry has its key
abbrev pub with_row : RowList → Rows → RowKey × RowVal → Result Rows TextFault
with_row list rows row = if is_some (map.get rows row.0) then Err (Shape (list_part list)) else Ok (map.insert rows row.0 row.1)

-- what an entry becomes, unless an earlier entry has its key
abbrev pub with_rows : RowList → Rows → Writes → Result Rows TextFault
with_rows list rows [] = Ok rows
with_rows list rows (row ∷ others) = with_row list rows row >>= λ more. Ok (overlay more others)

-- the rows with those of an entry
abbrev pub add_entry : BookVersion → RowList → Data → Rows → Result Rows TextFault
add_entry version list entry rows = rows_at version list entry >>= with_rows list rows

-- the rows with those of the entries, in their order
unfoldable pub add_entries : BookVersion → RowList → Items → Rows → Result Rows TextFault
add_entries version list no_items rows = Ok rows
add_entries version list (item entry entries) rows = do
  more ← add_entry version list entry rows
  add_entries version list entries more

-- the rows with those of a list of the top object, if the version has it
unfoldable pub add_list : BookVersion → RowList → Data → Rows → Result Rows TextFault
add_list version list top rows =
    if has_list version list then
    (or_fault (Shape (list_part list)) (option_and_then as_array (get (list_key list) top)) >>= λ entries. add_entries version list entries rows)
    else Ok rows

-- each row is new when it is written behind those before it
abbrev pub AreNew : Rows → Writes → Type 0
AreNew rows [] = Unit {0}
AreNew rows (row ∷ others) = (map.get rows row.0 ≡ None) × AreNew (map.insert rows row.0 row.1) others
