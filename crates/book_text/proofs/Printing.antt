-- What is printed of tokens, part by part.
use Rattle.std.proofs.Common.{◌≡◌, ℕ, List, [], ◌∷◌, ◌++◌, Bool, true, false, Some, None, refl, sym, ap, ◌∙◌, append_assoc, drop, ◌≤◌, slice_range}
use Rattle.std.proofs.lemmas.List.Folds.{drop_split}
use Rattle.json.specs.Print.{print, print_from}
use Rattle.json.specs.Token.{Token, end_array}
use Rattle.json.proofs.Printed.Tokens.{print_from-append}
use Rattle.issuer_words.specs.Words.{RowKey, RowVal}
use Rattle.book_laws.specs.Text.{ends_after}
use Rattle.book_laws.specs.declared.row_list.RowList.{RowList}
use Rattle.book_laws.specs.declared.row_list.RowList.TheVariants.{Cards, Days, Budgets, Originals, Ahead, Accounts}
use Rattle.book_laws.proofs.WrittenTokens.{rest_tokens}
use Rattle.book_text.specs.Left.{text_of_rows, text_left, tokens_left, tokens_behind, entries_tokens}
use Rattle.book_text.specs.Pieces.{first_tokens, next_list, between, last_tokens}
use Rattle.book_text.proofs.Entries.{rest_split}

-- what is left at the beginning
pub begun : (rows : List (RowKey × RowVal)) → text_of_rows rows ≡ print first_tokens ++ text_left false Accounts rows rows
begun rows = print_from-append false first_tokens (tokens_left Accounts rows rows)

-- what is left in a list, once some of its rows are written
pub left_split : (later : Bool) (list : RowList) (some left rows : List (RowKey × RowVal))
    → text_left later list (some ++ left) rows ≡ print_from later (entries_tokens list some) ++ text_left (ends_after later (entries_tokens list some)) list left rows
left_split later list some left rows =
    ap (λ (ts : List Token). print_from later (ts ++ tokens_behind list rows)) (rest_split list some left)
    ∙ ap (print_from later) (append_assoc (entries_tokens list some) (rest_tokens list left) (tokens_behind list rows))
    ∙ print_from-append later (entries_tokens list some) (tokens_left list left rows)

-- what is left in a list from a row on, once the piece up to another row is made
pub piece_split : (later goes_on : Bool) (list : RowList) (at end : ℕ) (rows : List (RowKey × RowVal)) (piece : List ℕ) → at ≤ end
    → piece ≡ print_from later (entries_tokens list (slice_range rows at end))
    → goes_on ≡ ends_after later (entries_tokens list (slice_range rows at end))
    → text_left later list (drop at rows) rows ≡ piece ++ text_left goes_on list (drop end rows) rows
piece_split later goes_on list at end rows piece within is ends =
    let entries = entries_tokens list (slice_range rows at end) in
    ap (λ (from : List (RowKey × RowVal)). text_left later list from rows) (drop_split rows at end within)
    ∙ left_split later list (slice_range rows at end) (drop end rows) rows
    ∙ ap (λ (t : List ℕ). t ++ text_left (ends_after later entries) list (drop end rows) rows) (sym is)
    ∙ ap (λ (b : Bool). piece ++ text_left b list (drop end rows) rows) (sym ends)

-- no comma stands before a closing bracket
closes : (later : Bool) (ts : List Token) → print_from later (end_array ∷ ts) ≡ print (end_array ∷ ts)
unfolding print_from
closes true ts = refl
closes false ts = refl

-- what is left behind the rows of a list that isn't the last one
pub left_before : (later : Bool) (list next : RowList) (rows : List (RowKey × RowVal)) → next_list list ≡ Some next
    → text_left later list [] rows ≡ print (between next) ++ text_left false next rows rows
left_before later list next rows h = go list h
  where
    behind : (next' : RowList) → next' ≡ next → print (between next' ++ tokens_left next' rows rows) ≡ print (between next) ++ text_left false next rows rows
    behind next' same = print_from-append false (between next') (tokens_left next' rows rows) ∙ ap (λ (n : RowList). print (between n) ++ text_left false n rows rows) same

    go : (list' : RowList) → next_list list' ≡ Some next → text_left later list' [] rows ≡ print (between next) ++ text_left false next rows rows
    go Accounts k = closes later _ ∙ behind Ahead cc
    go Ahead k = closes later _ ∙ behind Budgets cc
    go Budgets k = closes later _ ∙ behind Cards cc
    go Cards k = closes later _ ∙ behind Days cc
    go Days k = closes later _ ∙ behind Originals cc
    go Originals k = absurd cc

-- what is left behind the rows of the last list
pub left_last : (later : Bool) (list : RowList) (rows : List (RowKey × RowVal)) → next_list list ≡ None → text_left later list [] rows ≡ print last_tokens
left_last later Accounts rows h = absurd cc
left_last later Ahead rows h = absurd cc
left_last later Budgets rows h = absurd cc
left_last later Cards rows h = absurd cc
left_last later Days rows h = absurd cc
left_last later Originals rows h = closes later _
