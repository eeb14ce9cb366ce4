-- What of a text is left to be written, over its rows.
use Rattle.std.specs.Prelude.{ℕ, List, ◌++◌, Bool, codes, flat_map}
use Rattle.json.specs.Print.{print, print_from}
use Rattle.json.specs.Token.{Token}
use Rattle.json.specs.Tree.{items_tokens, members_tokens}
use Rattle.issuer_words.specs.Words.{RowKey, RowVal}
use Rattle.serde_json.specs.Data.{Members, member, no_members}
use Rattle.serde_json.specs.Written.{items_outline, members_outline}
use Rattle.book_laws.specs.Parts.{list_key}
use Rattle.book_laws.specs.Text.{numeral, tokens_of, entry_data, items_data, rows_of, list_data, top_data}
use Rattle.book_laws.specs.declared.row_list.RowList.{RowList}
use Rattle.book_laws.specs.declared.row_list.RowList.TheVariants.{Cards, Days, Budgets, Originals, Ahead, Accounts}

-- the tokens of the entries of rows, one behind another
abbrev pub tokens_of_entries : List (RowKey × RowVal) → List Token
tokens_of_entries rows = flat_map (λ row. tokens_of (entry_data row.0 row.1)) rows

-- those of the entries of a list, without its brackets
abbrev pub entries_tokens : RowList → List (RowKey × RowVal) → List Token
entries_tokens list rows = tokens_of_entries (rows_of list rows)

-- ---- the members of the top object behind each list

abbrev pub behind_originals : List (RowKey × RowVal) → Members
behind_originals rows = member (codes "version") (numeral 3) no_members

abbrev pub behind_days : List (RowKey × RowVal) → Members
behind_days rows = member (list_key Originals) (list_data Originals rows) (behind_originals rows)

abbrev pub behind_cards : List (RowKey × RowVal) → Members
behind_cards rows = member (list_key Days) (list_data Days rows) (behind_days rows)

abbrev pub behind_budgets : List (RowKey × RowVal) → Members
behind_budgets rows = member (list_key Cards) (list_data Cards rows) (behind_cards rows)

abbrev pub behind_ahead : List (RowKey × RowVal) → Members
behind_ahead rows = member (list_key Budgets) (list_data Budgets rows) (behind_budgets rows)

abbrev pub behind_accounts : List (RowKey × RowVal) → Members
behind_accounts rows = member (list_key Ahead) (list_data Ahead rows) (behind_ahead rows)

abbrev pub members_behind : RowList → List (RowKey × RowVal) → Members
members_behind Accounts rows = behind_accounts rows
members_behind Ahead rows = behind_ahead rows
members_behind Budgets rows = behind_budgets rows
members_behind Cards rows = behind_cards rows
members_behind Days rows = behind_days rows
members_behind Originals rows = behind_originals rows

-- ---- what is left

-- the tokens behind a list, with the bracket that ends the top object
abbrev pub tokens_behind : RowList → List (RowKey × RowVal) → List Token
tokens_behind list rows = members_tokens (members_outline (members_behind list rows))

-- the tokens that are left in a list, from some of the rows on: its entries, its closing bracket and what is behind it
abbrev pub tokens_left : RowList → List (RowKey × RowVal) → List (RowKey × RowVal) → List Token
tokens_left list left rows = items_tokens (items_outline (items_data (rows_of list left))) ++ tokens_behind list rows

-- their text, where it is known whether an entry stands before them
abbrev pub text_left : Bool → RowList → List (RowKey × RowVal) → List (RowKey × RowVal) → List ℕ
text_left later list left rows = print_from later (tokens_left list left rows)

-- the whole text of these rows
abbrev pub text_of_rows : List (RowKey × RowVal) → List ℕ
text_of_rows rows = print (tokens_of (top_data rows))
