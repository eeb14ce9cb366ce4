-- A book's text is read again as the book.
use Rattle.std.proofs.Common.{◌≡◌, ℕ, ◌≤◌, Bool, true, false, cond, subst, ◌||◌, List, [], ◌∷◌, Option, Some, Ok, Result, option_and_then, refl, sym, ap, ◌∙◌, append-nil, arith}
use Rattle.std.proofs.lemmas.Bool.{false≢true}
use Rattle.std.specs.FinMap as map
use Rattle.std.specs.List.{AllByRecursion}
use Rattle.std.specs.Str.{IsUtf8}
use Rattle.json.proofs.Printed.Trees.{value-json_tokens}
use Rattle.json.proofs.Printed.Utf8.{IsUtf8-are_ascii}
use Rattle.json.specs.Json as json
use Rattle.json.specs.Lex.{tokens}
use Rattle.json.specs.Token.{Token}
use Rattle.json.specs.Tree.{depth}
use Rattle.issuer_words.specs.Words.{Rows, key_cmp, overlay}
use Rattle.issuer_rows.specs.declared.row_val.RowVal.TheVariants as val
use Rattle.serde_json.proofs.Numbers.{number_of-decimal}
use Rattle.serde_json.specs.Data.{Data}
use Rattle.serde_json.specs.Read.{of_json, read, max_depth}
use Rattle.serde_json.specs.Written.{compact_text, outline}
use Rattle.book_laws.proofs.ListNames.{list_told}
use Rattle.book_laws.proofs.PlainTexts.{plain_tokens, plain_utf8}
use Rattle.book_laws.proofs.Readings.{read_value}
use Rattle.book_laws.proofs.RoundTrip.{Row, AreApart, items_again, items_flat, list_added, all_there, book_there, sorted_apart, new_apart, kept_none}
use Rattle.book_laws.specs.Lists.{AreNew, add_entries, add_list}
use Rattle.book_laws.specs.Parts.{is_in, list_key}
use Rattle.book_laws.specs.Reading.{add_lists, all_lists, book_of, reading}
use Rattle.book_laws.specs.Steps.{◌>>=◌}
use Rattle.book_laws.specs.Text.{ReadsBack, IsReadAgain, IsPlain, AreItemsPlain, tokens_of, rows_of, items_data, top_data, book_text}
use Rattle.book_laws.specs.declared.book_version.BookVersion.TheVariants.{Three}
use Rattle.book_laws.specs.declared.row_list.RowList.{RowList}
use Rattle.book_laws.specs.declared.row_list.RowList.TheVariants.{Cards, Days, Budgets, Originals, Ahead, Accounts}
use Rattle.book_laws.specs.declared.text_fault.TextFault.{TextFault}

-- the rows of a list are read again
abbrev pub IsReadBack : List Row → RowList → Type 0
IsReadBack rows list = AllByRecursion (ReadsBack list) (rows_of list rows)

-- those of each list
pub record AreReadBack (rows : List Row) : Type 0 where
  pub accounts : IsReadBack rows Accounts
  pub ahead : IsReadBack rows Ahead
  pub budgets : IsReadBack rows Budgets
  pub cards : IsReadBack rows Cards
  pub days : IsReadBack rows Days
  pub originals : IsReadBack rows Originals

-- ---- the JSON value

data_again : (rows : List Row) → AreReadBack rows → of_json (outline (top_data rows)) ≡ Some (top_data rows)
data_again rows h =
    rw (
      items_again Accounts _ h.accounts,
      items_again Ahead _ h.ahead,
      items_again Budgets _ h.budgets,
      items_again Cards _ h.cards,
      items_again Days _ h.days,
      items_again Originals _ h.originals,
      number_of-decimal 3 (omega arith),
    ) refl

data_depth : (rows : List Row) → AreReadBack rows → depth (outline (top_data rows)) ≤ 4
data_depth rows h =
    omega (arith, items_flat Accounts _ h.accounts, items_flat Ahead _ h.ahead, items_flat Budgets _ h.budgets, items_flat Cards _ h.cards, items_flat Days _ h.days, items_flat Originals _ h.originals)

-- what serde_json reads of the text is the value
read_again : (rows : List Row) (text : List ℕ) → AreReadBack rows → tokens text ≡ tokens_of (top_data rows) → read text ≡ Some (top_data rows)
read_again rows text h is =
    let deep = data_depth rows h in
    ap (λ (o : Option (json.Json × List Token)). option_and_then of_json (option_and_then (λ p. json.if_last p.0 p.1) o))
    (ap (json.value max_depth) (is ∙ sym (append-nil _)) ∙ value-json_tokens (outline (top_data rows)) max_depth [] (omega (arith, deep)))
    ∙ data_again rows h

-- ---- the lists, each behind those that are read before it

done_1 : Row → Bool
done_1 row = is_in Cards row.1 || false

done_2 : Row → Bool
done_2 row = is_in Days row.1 || done_1 row

done_3 : Row → Bool
done_3 row = is_in Budgets row.1 || done_2 row

done_4 : Row → Bool
done_4 row = is_in Originals row.1 || done_3 row

done_5 : Row → Bool
done_5 row = is_in Ahead row.1 || done_4 row

done_6 : Row → Bool
done_6 row = is_in Accounts row.1 || done_5 row

apart_2 : (row : Row) → is_in Days row.1 ≡ true → done_1 row ≡ false
unfolding done_1
apart_2 (k, val.Velocity v) h = refl
apart_2 (k, v) h = absurd (false≢true h)

apart_3 : (row : Row) → is_in Budgets row.1 ≡ true → done_2 row ≡ false
unfolding done_1 done_2
apart_3 (k, val.Budget v) h = refl
apart_3 (k, v) h = absurd (false≢true h)

apart_4 : (row : Row) → is_in Originals row.1 ≡ true → done_3 row ≡ false
unfolding done_1 done_2 done_3
apart_4 (k, val.Kept v) h = refl
apart_4 (k, v) h = absurd (false≢true h)

apart_5 : (row : Row) → is_in Ahead row.1 ≡ true → done_4 row ≡ false
unfolding done_1 done_2 done_3 done_4
apart_5 (k, val.Ahead v) h = refl
apart_5 (k, v) h = absurd (false≢true h)

apart_6 : (row : Row) → is_in Accounts row.1 ≡ true → done_5 row ≡ false
unfolding done_1 done_2 done_3 done_4 done_5
apart_6 (k, val.Account v) h = refl
apart_6 (k, v) h = absurd (false≢true h)

-- each row is in a list
each_row : (row : Row) → done_6 row ≡ true
unfolding done_1 done_2 done_3 done_4 done_5 done_6
each_row (k, val.Card v) = refl
each_row (k, val.Velocity v) = refl
each_row (k, val.Budget v) = refl
each_row (k, val.Kept v) = refl
each_row (k, val.Ahead v) = refl
each_row (k, val.Account v) = refl

next_list : (list : RowList) (lists : List RowList) (top : Data) (m after : Rows) → add_list Three list top m ≡ Ok after → add_lists Three (list ∷ lists) top m ≡ add_lists Three lists top after
unfolding add_lists
next_list list lists top m after e = ap (λ (r : Result Rows TextFault). r >>= add_lists Three lists top) e

last_list : (top : Data) (m : Rows) → add_lists Three [] top m ≡ Ok m
unfolding add_lists
last_list top m = refl

-- the list of the top object
of_top : (rows : List Row) (m : Rows) (list : RowList) → add_list Three list (top_data rows) m ≡ add_entries Three list (items_data (rows_of list rows)) m
unfolding add_list
of_top rows m Cards = refl
of_top rows m Days = refl
of_top rows m Budgets = refl
of_top rows m Originals = refl
of_top rows m Ahead = refl
of_top rows m Accounts = refl

lists_again : (es : List Row) → AreApart es → AreReadBack es → add_lists Three all_lists (top_data es) map.empty ≡ Ok (overlay map.empty es)
unfolding done_1 done_2 done_3 done_4 done_5 done_6
lists_again es apart h =
    let cards = list_added Cards es (λ _. false) map.empty apart h.cards (λ row is. refl) (λ q. map.get-empty key_cmp q ∙ sym (kept_none q _)) in
    let days = list_added Days es done_1 cards.0 apart h.days apart_2 cards.2 in
    let budgets = list_added Budgets es done_2 days.0 apart h.budgets apart_3 days.2 in
    let originals = list_added Originals es done_3 budgets.0 apart h.originals apart_4 budgets.2 in
    let ahead = list_added Ahead es done_4 originals.0 apart h.ahead apart_5 originals.2 in
    let accounts = list_added Accounts es done_5 ahead.0 apart h.accounts apart_6 ahead.2 in
    next_list Cards _ _ _ cards.0 (of_top es _ Cards ∙ cards.1)
    ∙ next_list Days _ _ _ days.0 (of_top es _ Days ∙ days.1)
    ∙ next_list Budgets _ _ _ budgets.0 (of_top es _ Budgets ∙ budgets.1)
    ∙ next_list Originals _ _ _ originals.0 (of_top es _ Originals ∙ originals.1)
    ∙ next_list Ahead _ _ _ ahead.0 (of_top es _ Ahead ∙ ahead.1)
    ∙ next_list Accounts _ _ _ accounts.0 (of_top es _ Accounts ∙ accounts.1)
    ∙ last_list (top_data es) accounts.0
    ∙ ap (λ (m : Rows). Ok m) (all_there es accounts.0 done_6 each_row apart accounts.2)

top_again : (rows : List Row) → AreApart rows → AreReadBack rows → book_of (top_data rows) ≡ Ok (overlay map.empty rows)
unfolding book_of
top_again rows apart h = lists_again rows apart h

-- the text of rows that each are read again, each of another key, is read as the book that has them
text_again : (rows : List Row) (text : List ℕ) → AreApart rows → AreReadBack rows → IsUtf8 text → tokens text ≡ tokens_of (top_data rows)
    → reading text ≡ Ok (overlay map.empty rows)
text_again rows text apart h utf8 is = read_value text (top_data rows) utf8 (read_again rows text h is) ∙ top_again rows apart h

-- ---- the text of a book whose rows each are read again

-- of the rows of a list, each is read again, and its entry is plain
abbrev AreEntriesOf : RowList → List Row → Type 0
AreEntriesOf list rows = AllByRecursion (ReadsBack list) rows × AreItemsPlain (items_data rows)

entries_of : (list : RowList) (rows : List Row) → AllByRecursion IsReadAgain rows → AreEntriesOf list (rows_of list rows)
entries_of list [] h = (tt, tt)
entries_of list (row ∷ rows) h =
    let rest = entries_of list rows h.1 in
    elim (is_in list row.1) as (λ b. is_in list row.1 ≡ b → AreEntriesOf list (cond b (row ∷ rows_of list rows) (rows_of list rows))) [
      | true ↦ λ is. ((subst (λ (l : RowList). ReadsBack l row) (list_told list row.1 is) h.0.back, rest.0), (h.0.plain, rest.1))
      | false ↦ λ is. rest
    ] refl

key_utf8 : (list : RowList) → IsUtf8 (list_key list)
key_utf8 Cards = IsUtf8-are_ascii _ refl
key_utf8 Days = IsUtf8-are_ascii _ refl
key_utf8 Budgets = IsUtf8-are_ascii _ refl
key_utf8 Originals = IsUtf8-are_ascii _ refl
key_utf8 Ahead = IsUtf8-are_ascii _ refl
key_utf8 Accounts = IsUtf8-are_ascii _ refl

apart_text_again : (rows : List Row) → AreApart rows → AllByRecursion IsReadAgain rows → reading (compact_text (top_data rows)) ≡ Ok (overlay map.empty rows)
apart_text_again rows apart h =
    let accounts = entries_of Accounts _ h in
    let ahead = entries_of Ahead _ h in
    let budgets = entries_of Budgets _ h in
    let cards = entries_of Cards _ h in
    let days = entries_of Days _ h in
    let originals = entries_of Originals _ h in
    let back : AreReadBack rows = record { accounts = accounts.0; ahead = ahead.0; budgets = budgets.0; cards = cards.0; days = days.0; originals = originals.0 } in
    let plain : IsPlain (top_data rows) = (
      key_utf8 Accounts,
      accounts.1,
      (
        key_utf8 Ahead,
        ahead.1,
        (
          key_utf8 Budgets,
          budgets.1,
          (
            key_utf8 Cards,
            cards.1,
            (
              key_utf8 Days,
              days.1,
              (
                key_utf8 Originals,
                originals.1,
                (IsUtf8-are_ascii _ refl, omega arith, tt),
              ),
            ),
          ),
        ),
      ),
    ) in
    text_again rows (compact_text (top_data rows)) apart back (plain_utf8 (top_data rows) plain) (plain_tokens (top_data rows) plain)

-- the text of rows that each are read again is read as the book that has them, where none of them has the key of another
pub rows_text_again : (rows : List Row) → AreNew map.empty rows → AllByRecursion IsReadAgain rows → reading (compact_text (top_data rows)) ≡ Ok (overlay map.empty rows)
rows_text_again rows new h = apart_text_again rows (new_apart rows map.empty new) h

-- the text of a book is read as the book, where each of its rows is read again
pub book_text_again : (book : Rows) → AllByRecursion IsReadAgain (map.entries book) → reading (book_text book) ≡ Ok book
book_text_again book h =
    apart_text_again (map.entries book) (sorted_apart (map.entries book) (map.entries_sorted book)) h ∙ ap (λ (m : Rows). Ok m) (book_there book)
