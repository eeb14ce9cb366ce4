-- The tokens of entries.
use Rattle.std.proofs.Common.{◌≡◌, List, [], ◌∷◌, ◌++◌, Bool, true, false, refl, ap, sym, ◌∙◌, append_assoc, cond}
use Rattle.std.proofs.lemmas.List.Elements.{filter-append}
use Rattle.json.specs.Token.{Token}
use Rattle.json.specs.Tree.{items_tokens}
use Rattle.issuer_words.specs.Words.{RowKey, RowVal}
use Rattle.serde_json.specs.Written.{items_outline}
use Rattle.book_laws.specs.Parts.{is_in}
use Rattle.book_laws.specs.Text.{tokens_of, entry_data, items_data, rows_of}
use Rattle.book_laws.specs.declared.row_list.RowList.{RowList}
use Rattle.book_laws.proofs.WrittenTokens.{rest_tokens}
use Rattle.book_text.specs.Left.{tokens_of_entries, entries_tokens}

-- ---- the entries of some rows, and of those behind them

split_entries : (rows left : List (RowKey × RowVal)) → items_tokens (items_outline (items_data (rows ++ left))) ≡ tokens_of_entries rows ++ items_tokens (items_outline (items_data left))
split_entries [] left = refl
split_entries (row ∷ rows) left =
    ap (λ (ts : List Token). tokens_of (entry_data row.0 row.1) ++ ts) (split_entries rows left)
    ∙ sym (append_assoc (tokens_of (entry_data row.0 row.1)) _ _)

pub rest_split : (list : RowList) (rows left : List (RowKey × RowVal)) → rest_tokens list (rows ++ left) ≡ entries_tokens list rows ++ rest_tokens list left
rest_split list rows left =
    ap (λ (both : List (RowKey × RowVal)). items_tokens (items_outline (items_data both))) (filter-append (λ (row : RowKey × RowVal). is_in list row.1) rows left)
    ∙ split_entries (rows_of list rows) (rows_of list left)

-- ---- one row more

pub rows_in : (list : RowList) (row : RowKey × RowVal) (rows : List (RowKey × RowVal)) → is_in list row.1 ≡ true → rows_of list (row ∷ rows) ≡ row ∷ rows_of list rows
rows_in list row rows stands = ap (λ (b : Bool). cond b (row ∷ rows_of list rows) (rows_of list rows)) stands

pub rows_out : (list : RowList) (row : RowKey × RowVal) (rows : List (RowKey × RowVal)) → is_in list row.1 ≡ false → rows_of list (row ∷ rows) ≡ rows_of list rows
rows_out list row rows stands = ap (λ (b : Bool). cond b (row ∷ rows_of list rows) (rows_of list rows)) stands
