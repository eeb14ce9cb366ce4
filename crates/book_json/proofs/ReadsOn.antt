-- A text that is read part by part goes on being read.
use Rattle.std.proofs.Common.{◌≡◌, ◌≢◌, ℕ, ◌+◌, ◌<◌, List, [], ◌∷◌, ◌++◌, Bool, true, false, cond, Option, Some, None, is_some, Ok, refl, sym, ap, ◌∙◌, subst, arith}
use Rattle.std.proofs.lemmas.List.{append-nil}
use Rattle.std.proofs.lemmas.List.Concat.{flat_map-append}
use Rattle.std.proofs.lemmas.List.Elements.{filter-append}
use Rattle.std.specs.FinMap as map
use Rattle.std.specs.List.{AllByRecursion}
use Rattle.json.specs.Print.{print, print_from}
use Rattle.json.specs.Token.{Token}
use Rattle.json.specs.Tree.{items_tokens}
use Rattle.serde_json.proofs.Texts.{print-outline}
use Rattle.serde_json.specs.Written.{items_outline}
use Rattle.issuer_rows.proofs.KeyLaws.{key_cmp_total}
use Rattle.issuer_words.specs.Words.{RowKey, RowVal, Rows, overlay}
use Rattle.book_laws.specs.Lists.{AreNew}
use Rattle.book_laws.specs.Parts.{is_in}
use Rattle.book_laws.specs.Reading.{reading}
use Rattle.book_laws.specs.Text.{IsReadAgain, ends_after, tokens_of, entry_data, items_data, rows_of, top_data}
use Rattle.book_laws.specs.declared.row_list.RowList.{RowList}
use Rattle.book_laws.specs.declared.row_list.RowList.TheVariants.{Cards, Days, Budgets, Originals, Ahead, Accounts}
use Rattle.book_laws.proofs.BookAgain.{rows_text_again}
use Rattle.book_laws.proofs.ListNames.{list_told}
use Rattle.book_text.specs.Left.{text_left, tokens_behind, tokens_of_entries, entries_tokens}
use Rattle.book_text.specs.Pieces.{first_tokens, next_list, between, last_tokens}
use Rattle.book_text.proofs.Entries.{rows_in, rows_out}
use Rattle.book_text.proofs.Printing.{begun, left_split, left_before, left_last}
use Rattle.book_json.specs.ReadsOn.{list_place, NoneBefore, ReadsOn, TakesRows}

abbrev Row : Type 0
Row = RowKey × RowVal

-- ---- rows behind rows

overlay_both : (book : Rows) (some more : List Row) → overlay book (some ++ more) ≡ overlay (overlay book some) more
overlay_both book [] more = refl
overlay_both book (row ∷ some) more = overlay_both (map.insert book row.0 row.1) some more

new_both : (book : Rows) (some more : List Row) → AreNew book some → AreNew (overlay book some) more → AreNew book (some ++ more)
new_both book [] more new then_new = then_new
new_both book (row ∷ some) more new then_new = (new.0, new_both (map.insert book row.0 row.1) some more new.1 then_new)

all_both : (P : Row → Type 0) (some more : List Row) → AllByRecursion P some → AllByRecursion P more → AllByRecursion P (some ++ more)
all_both P [] more all then_all = then_all
all_both P (row ∷ some) more all then_all = (all.0, all_both P some more all.1 then_all)

-- ---- rows of one list stand in no other

not_in_both : (list other : RowList) → other ≢ list → (held : RowVal) → is_in list held ≡ true → is_in other held ≡ false
not_in_both list other differ held is =
    elim (is_in other held) as (λ b. is_in other held ≡ b → b ≡ false) [
      | true ↦ λ too. absurd (differ (sym (list_told other held too) ∙ list_told list held is))
      | false ↦ λ no. refl
    ] refl

none_of_both : (list other : RowList) → other ≢ list → (rows : List Row) → rows_of other (rows_of list rows) ≡ []
none_of_both list other differ [] = refl
none_of_both list other differ (row ∷ rows) =
    elim (is_in list row.1) as (λ b. is_in list row.1 ≡ b → rows_of other (cond b (row ∷ rows_of list rows) (rows_of list rows)) ≡ []) [
      | true ↦ λ is. rows_out other row (rows_of list rows) (not_in_both list other differ row.1 is) ∙ none_of_both list other differ rows
      | false ↦ λ no. none_of_both list other differ rows
    ] refl

-- so another list has none of them
none_other : (list other : RowList) (some : List Row) → other ≢ list → rows_of list some ≡ some → rows_of other some ≡ []
none_other list other some differ all = ap (rows_of other) (sym all) ∙ none_of_both list other differ some

rows_both : (list : RowList) (some more : List Row) → rows_of list (some ++ more) ≡ rows_of list some ++ rows_of list more
rows_both list some more = filter-append (λ (row : Row). is_in list row.1) some more

behind_other : (list other : RowList) (some more : List Row) → other ≢ list → rows_of list some ≡ some → rows_of other (some ++ more) ≡ rows_of other more
behind_other list other some more differ all = rows_both other some more ∙ ap (λ (rows : List Row). rows ++ rows_of other more) (none_other list other some differ all)

-- what is behind a list is that of the rows behind its own
behind_same : (list : RowList) (some more : List Row) → rows_of list some ≡ some → tokens_behind list (some ++ more) ≡ tokens_behind list more
behind_same Accounts some more all =
    rw (
      behind_other Accounts Ahead some more (λ e. cc) all,
      behind_other Accounts Budgets some more (λ e. cc) all,
      behind_other Accounts Cards some more (λ e. cc) all,
      behind_other Accounts Days some more (λ e. cc) all,
      behind_other Accounts Originals some more (λ e. cc) all,
    ) refl
behind_same Ahead some more all =
    rw (
      behind_other Ahead Budgets some more (λ e. cc) all,
      behind_other Ahead Cards some more (λ e. cc) all,
      behind_other Ahead Days some more (λ e. cc) all,
      behind_other Ahead Originals some more (λ e. cc) all,
    ) refl
behind_same Budgets some more all =
    rw (
      behind_other Budgets Cards some more (λ e. cc) all,
      behind_other Budgets Days some more (λ e. cc) all,
      behind_other Budgets Originals some more (λ e. cc) all,
    ) refl
behind_same Cards some more all = rw (behind_other Cards Days some more (λ e. cc) all, behind_other Cards Originals some more (λ e. cc) all) refl
behind_same Days some more all = rw (behind_other Days Originals some more (λ e. cc) all) refl
behind_same Originals some more all = refl

earlier_differs : (list earlier : RowList) → list_place earlier < list_place list → earlier ≢ list
earlier_differs list earlier before same = absurd (omega (arith, before, ap list_place same))

-- ---- a text from its beginning on

pub begins : (bytes rest : List ℕ) → bytes ≡ print first_tokens ++ rest → ReadsOn bytes rest Accounts false map.empty
begins bytes rest is rows new again none left =
    ap reading (is ∙ ap (λ (l : List ℕ). print first_tokens ++ l) left ∙ sym (begun rows) ∙ print-outline (top_data rows)) ∙ rows_text_again rows new again

-- behind some rows of the list
pub goes_on : (bytes rest piece behind : List ℕ) (list : RowList) (later goes : Bool) (some : List Row) (old new : Rows)
    → rest ≡ piece ++ behind → piece ≡ print_from later (entries_tokens list some) → goes ≡ ends_after later (entries_tokens list some)
    → rows_of list some ≡ some → TakesRows some old new → ReadsOn bytes rest list later old → ReadsOn bytes behind list goes new
goes_on bytes rest piece behind list later goes some old new is made ends all takes on more news again none left =
    let news' : AreNew (overlay old some) more = subst (λ (book : Rows). AreNew book more) takes.book news in
    let none' : NoneBefore list (some ++ more) = λ earlier before.
    behind_other list earlier some more (earlier_differs list earlier before) all ∙ none earlier before in
    let same : text_left goes list more more ≡ text_left (ends_after later (entries_tokens list some)) list more (some ++ more) =
    ap (λ (b : Bool). text_left b list more more) ends
    ∙ ap (λ (ts : List Token). print_from (ends_after later (entries_tokens list some)) (items_tokens (items_outline (items_data (rows_of list more))) ++ ts)) (sym (behind_same list some more all)) in
    let whole : rest ≡ text_left later list (some ++ more) (some ++ more) =
    is
    ∙ ap (λ (l : List ℕ). l ++ behind) made
    ∙ ap (λ (l : List ℕ). print_from later (entries_tokens list some) ++ l) (left ∙ same)
    ∙ sym (left_split later list some more (some ++ more)) in
    on (some ++ more) (new_both old some more takes.were_new news') (all_both IsReadAgain some more takes.again again) none' whole
    ∙ ap (λ (book : Rows). Ok book) (overlay_both old some more ∙ ap (λ (book : Rows). overlay book more) (sym takes.book))

next_place : (list next : RowList) → next_list list ≡ Some next → list_place next ≡ list_place list + 1
next_place Accounts next is = let same : Ahead ≡ next = cc in ap list_place (sym same)
next_place Ahead next is = let same : Budgets ≡ next = cc in ap list_place (sym same)
next_place Budgets next is = let same : Cards ≡ next = cc in ap list_place (sym same)
next_place Cards next is = let same : Days ≡ next = cc in ap list_place (sym same)
next_place Days next is = let same : Originals ≡ next = cc in ap list_place (sym same)
next_place Originals next is = absurd cc

-- behind all rows of the list, in the next one
pub leaves : (bytes rest piece behind : List ℕ) (list next : RowList) (later : Bool) (book : Rows)
    → next_list list ≡ Some next → rest ≡ piece ++ behind → piece ≡ print (between next)
    → ReadsOn bytes rest list later book → ReadsOn bytes behind next false book
leaves bytes rest piece behind list next later book is_next is made on more new again none left =
    let place : list_place next ≡ list_place list + 1 = next_place list next is_next in
    let own : rows_of list more ≡ [] = none list (omega (arith, place)) in
    let whole : rest ≡ text_left later list more more =
    is
    ∙ ap (λ (l : List ℕ). l ++ behind) made
    ∙ ap (λ (l : List ℕ). print (between next) ++ l) left
    ∙ sym (left_before later list next more is_next)
    ∙ sym (ap (λ (rows : List Row). print_from later (items_tokens (items_outline (items_data rows)) ++ tokens_behind list more)) own) in
    on more new again (λ earlier before. none earlier (omega (arith, place, before))) whole

-- behind all rows of the last list
pub ends : (bytes rest : List ℕ) (later : Bool) (book : Rows) → rest ≡ print last_tokens → ReadsOn bytes rest Originals later book → reading bytes ≡ Ok book
ends bytes rest later book is on = on [] tt tt (λ earlier before. refl) (is ∙ sym (left_last later Originals [] refl))

-- ---- rows that a book takes, one after another

pub takes_one : (row : Row) (rows : List Row) (book more after : Rows) → map.get book row.0 ≡ None → IsReadAgain row → more ≡ map.insert book row.0 row.1
    → TakesRows rows more after → TakesRows (row ∷ rows) book after
takes_one row rows book more after new again is takes = record {
  were_new = (new, subst (λ (b : Rows). AreNew b rows) is takes.were_new);
  again = (again, takes.again);
  book = takes.book ∙ ap (λ (b : Rows). overlay b rows) is;
}

pub takes_none : (book : Rows) → TakesRows [] book book
takes_none book = record { were_new = tt; again = tt; book = refl }

-- a row that makes a book longer wasn't there
pub new_by_len : (book : Rows) (key : RowKey) (val : RowVal) → map.len (map.insert book key val) ≢ map.len book → map.get book key ≡ None
new_by_len book key val differ =
    elim (map.get book key) as (λ o. map.get book key ≡ o → o ≡ None) [
      | None ↦ λ is. refl
      | Some there ↦ λ is.
          absurd (differ (map.len-insert key_cmp_total book key val ∙ ap (λ (o : Option RowVal). cond (is_some o) (map.len book) (map.len book + 1)) is))
    ] refl

-- ---- rows of a list that are read, one after another

pub one_more : (list : RowList) (row : Row) (rows : List Row) → rows_of list rows ≡ rows → is_in list row.1 ≡ true → rows_of list (rows ++ row ∷ []) ≡ rows ++ row ∷ []
one_more list row rows all is =
    rows_both list rows (row ∷ []) ∙ ap (λ (some : List Row). some ++ rows_of list (row ∷ [])) all ∙ ap (λ (some : List Row). rows ++ some) (rows_in list row [] is)

pub entries_more : (row : Row) (rows : List Row) → tokens_of_entries (rows ++ row ∷ []) ≡ tokens_of_entries rows ++ tokens_of (entry_data row.0 row.1)
entries_more row rows =
    flat_map-append (λ (r : Row). tokens_of (entry_data r.0 r.1)) rows (row ∷ [])
    ∙ ap (λ (ts : List Token). tokens_of_entries rows ++ ts) (append-nil (tokens_of (entry_data row.0 row.1)))
