-- Rows that stand by kind, and where those of a list are among them.
use Rattle.std.proofs.Common.{◌≡◌, ◌+◌, ◌-◌, ◌<◌, ◌≤◌, ℕ, zero, suc, Bool, true, false, List, [], ◌∷◌, ◌++◌, ◌&&◌, Bor, Ordering, Greater, refl, sym, ap, subst, ◌∙◌, arith, append-nil, drop, take, length, get_or, map, slice_range}
use Rattle.std.proofs.lemmas.Bool.{false_from_ne_true, ltb-false}
use Rattle.std.proofs.lemmas.Bool.Decides.{nat_tests}
use Rattle.std.proofs.lemmas.List.{drop-map, get_or-drop, get_or-map, get_or-take, length-drop, length-map, length-take-le, take-append-drop, take-map}
use Rattle.std.proofs.lemmas.List.Elements.{All-drop, All-from_recursion, All-take, filter-append, recursion_from_All}
use Rattle.std.proofs.lemmas.List.Sorted.{IsNonDecreasingBy-drop, IsNonDecreasingBy-from_all_adjacent, IsNonDecreasingBy-take}
use Rattle.std.specs.FinMap as finite
use Rattle.std.specs.FinMap.Entries.{below_all, is_sorted}
use Rattle.std.specs.List.{AllAdjacentBelow}
use Rattle.std.specs.List.Sorted.{IsNonDecreasingBy}
use Rattle.std.specs.Map.Iter.{deref_pair}
use Rattle.std.specs.Ordering.{is_lt, nat_cmp, ordering_then}
use lib.Dec.{T, ltb}
use Rattle.issuer_words.specs.Words.{AllOfKind, IsOfKind, RowKey, RowVal, Rows, key_cmp, kind_of, kind_of_value, texts_cmp}
use Rattle.issuer_rows.specs.declared.row_val.RowVal.TheVariants as val
use Rattle.book_laws.specs.Parts.{list_of, is_in}
use Rattle.book_laws.specs.Text.{rows_of}
use Rattle.book_laws.specs.declared.row_list.RowList.{RowList}
use Rattle.book_laws.proofs.ListNames.{list_told}
use Rattle.book_text.specs.ByKind.{StandByKind, kind_of_list}
use Rattle.book_text.proofs.Entries.{rows_out}

abbrev Row : Type 0
Row = RowKey × RowVal

-- a row where it stands
abbrev pub Ref : Type 0
Ref = Bor RowKey × Bor RowVal

-- ---- a book's rows

both : (a b : Bool) → T (a && b) → T a × T b
both true b h = (tt, h)
both false b h = absurd h

-- a key that comes before another is of no later kind
no_later_kind : (a b : RowKey) → T (is_lt (key_cmp a b)) → kind_of a ≤ kind_of b
no_later_kind a b before =
    elim (ltb (kind_of b) (kind_of a)) as (λ t. ltb (kind_of b) (kind_of a) ≡ t → kind_of a ≤ kind_of b) [
      | true ↦ λ later.
          let greater : nat_cmp (kind_of a) (kind_of b) ≡ Greater = grind (arith, nat_tests, later) in
          absurd (subst (λ (o : Ordering). T (is_lt (ordering_then o (texts_cmp a b)))) greater before)
      | false ↦ λ not. ltb-false (kind_of b) (kind_of a) not
    ] refl

rising : (rows : List Row) → T (is_sorted key_cmp rows) → AllAdjacentBelow (λ x y. kind_of x.0 ≤ kind_of y.0) rows (length rows)
rising [] sorted k d within = absurd (omega (arith, within))
rising (x ∷ []) sorted k d within = absurd (omega (arith, within))
rising (x ∷ y ∷ rows) sorted zero d within =
    no_later_kind x.0 y.0 (both _ _ (both (below_all key_cmp x.0 (y ∷ rows)) (is_sorted key_cmp (y ∷ rows)) sorted).0).0
rising (x ∷ y ∷ rows) sorted (suc k) d within =
    let next : suc (k + 1) ≡ suc k + 1 = omega arith in
    subst (λ (n : ℕ). kind_of (get_or (x ∷ y ∷ rows) (suc k) d).0 ≤ kind_of (get_or (x ∷ y ∷ rows) n d).0) next
    (rising (y ∷ rows) (both (below_all key_cmp x.0 (y ∷ rows)) (is_sorted key_cmp (y ∷ rows)) sorted).1 k d (omega (arith, within)))

-- the rows of a book stand by kind
pub book_stands : (book : Rows) → AllOfKind (finite.entries book) → StandByKind (finite.entries book)
book_stands book kinds = record {
  kinds = kinds;
  order = IsNonDecreasingBy-from_all_adjacent (λ (row : Row). kind_of row.0) (finite.entries book) (rising (finite.entries book) (finite.entries_sorted book));
}

-- ---- some of the rows

kinds_taken : (n : ℕ) (rows : List Row) → AllOfKind rows → AllOfKind (take n rows)
kinds_taken n rows kinds = recursion_from_All _ _ (All-take (λ row. IsOfKind row.0 row.1) n rows (All-from_recursion _ rows kinds))

kinds_left : (n : ℕ) (rows : List Row) → AllOfKind rows → AllOfKind (drop n rows)
kinds_left n rows kinds = recursion_from_All _ _ (All-drop (λ row. IsOfKind row.0 row.1) n rows (All-from_recursion _ rows kinds))

-- rows from one place to another
pub range_stands : (rows : List Row) (at end : ℕ) → StandByKind rows → StandByKind (slice_range rows at end)
range_stands rows at end stand = record {
  kinds = kinds_taken (end - at) (drop at rows) (kinds_left at rows stand.kinds);
  order = IsNonDecreasingBy-take (λ (row : Row). kind_of row.0) (end - at) (drop at rows) (IsNonDecreasingBy-drop (λ (row : Row). kind_of row.0) at rows stand.order);
}

pub range_of_refs : (rows : List Ref) (at end : ℕ) → map deref_pair (slice_range rows at end) ≡ slice_range (map deref_pair rows) at end
range_of_refs rows at end = sym (take-map deref_pair (end - at) (drop at rows)) ∙ ap (λ (left : List Row). take (end - at) left) (sym (drop-map deref_pair at rows))

pub order_of_refs : (rows : List Ref) → StandByKind (map deref_pair rows) → IsNonDecreasingBy (λ (row : Ref). kind_of row.0.now) rows
order_of_refs rows stand i j d up within =
    let row : (k : ℕ) → k < length rows → get_or (map deref_pair rows) k (deref_pair d) ≡ deref_pair (get_or rows k d)
    = λ k inside. get_or-map deref_pair rows k d (deref_pair d) inside in
    let long : j < length (map deref_pair rows) = omega (arith, within, length-map rows deref_pair) in
    subst (λ (r : Row). kind_of r.0 ≤ kind_of (deref_pair (get_or rows j d)).0) (row i (omega (arith, up, within)))
    (subst (λ (r : Row). kind_of (get_or (map deref_pair rows) i (deref_pair d)).0 ≤ kind_of r.0) (row j within) (stand.order i j (deref_pair d) up long))

-- ---- the rows of a list

value_kind : (held : RowVal) → kind_of_value held ≡ kind_of_list (list_of held)
value_kind (val.Card row) = refl
value_kind (val.Velocity row) = refl
value_kind (val.Budget row) = refl
value_kind (val.Kept original) = refl
value_kind (val.Ahead mark) = refl
value_kind (val.Account row) = refl

-- a row of another kind doesn't stand in the list
not_in : (list : RowList) (row : Row) → IsOfKind row.0 row.1 → ¬ (kind_of row.0 ≡ kind_of_list list) → is_in list row.1 ≡ false
not_in list row kind apart =
    false_from_ne_true (is_in list row.1) (λ stands. apart (kind ∙ value_kind row.1 ∙ ap kind_of_list (list_told list row.1 stands)))

none_in : (list : RowList) (rows : List Ref) → AllOfKind (map deref_pair rows) → ((i : ℕ) (d : Ref) → i < length rows → ¬ (kind_of (get_or rows i d).0.now ≡ kind_of_list list))
    → rows_of list (map deref_pair rows) ≡ []
none_in list [] kinds apart = refl
none_in list (row ∷ rows) kinds apart =
    rows_out list (deref_pair row) (map deref_pair rows) (not_in list (deref_pair row) kinds.0 (apart 0 row (omega arith)))
    ∙ none_in list rows kinds.1 (λ i d within. apart (suc i) d (omega (arith, within)))

before_none : (list : RowList) (rows : List Ref) (first : ℕ) → first ≤ length rows → AllOfKind (map deref_pair rows)
    → ((i : ℕ) (d : Ref) → i < first → kind_of (get_or rows i d).0.now < kind_of_list list) → rows_of list (map deref_pair (take first rows)) ≡ []
before_none list rows first within kinds before =
    none_in list (take first rows) (subst AllOfKind (take-map deref_pair first rows) (kinds_taken first (map deref_pair rows) kinds))
    (λ i d inside same.
    let near : i < first = omega (arith, inside, length-take-le first rows within) in
    let less : kind_of (get_or (take first rows) i d).0.now < kind_of_list list = subst (λ (r : Ref). kind_of r.0.now < kind_of_list list) (sym (get_or-take first rows i d near)) (before i d near) in
    absurd (omega (arith, less, same)))

behind_none : (list : RowList) (rows : List Ref) (count : ℕ) → AllOfKind (map deref_pair rows)
    → ((i : ℕ) (d : Ref) → count ≤ i → i < length rows → kind_of_list list < kind_of (get_or rows i d).0.now) → rows_of list (map deref_pair (drop count rows)) ≡ []
behind_none list rows count kinds behind =
    none_in list (drop count rows) (subst AllOfKind (drop-map deref_pair count rows) (kinds_left count (map deref_pair rows) kinds))
    (λ i d inside same.
    let far : count + i < length rows = omega (arith, inside, length-drop count rows) in
    let less : kind_of_list list < kind_of (get_or (drop count rows) i d).0.now = subst (λ (r : Ref). kind_of_list list < kind_of r.0.now) (sym (get_or-drop count rows i d)) (behind (count + i) d (omega arith) far) in
    absurd (omega (arith, less, same)))

-- rows in two are listed one after another
split_in : (list : RowList) (n : ℕ) (rows : List Ref) → rows_of list (map deref_pair (take n rows)) ++ rows_of list (map deref_pair (drop n rows)) ≡ rows_of list (map deref_pair rows)
split_in list n rows =
    sym (λ i. rows_of list (take-map deref_pair n rows i) ++ rows_of list (drop-map deref_pair n rows i))
    ∙ sym (filter-append (λ (row : Row). is_in list row.1) (take n (map deref_pair rows)) (drop n (map deref_pair rows)))
    ∙ ap (rows_of list) (take-append-drop n (map deref_pair rows))

-- where all before some rows are of earlier kinds, and all behind them of later ones, these are all that stand in the list
pub all_in : (list : RowList) (rows : List Ref) (first count : ℕ) → first ≤ length rows → AllOfKind (map deref_pair rows)
    → ((i : ℕ) (d : Ref) → i < first → kind_of (get_or rows i d).0.now < kind_of_list list)
    → ((i : ℕ) (d : Ref) → count ≤ i → i < length (drop first rows) → kind_of_list list < kind_of (get_or (drop first rows) i d).0.now)
    → rows_of list (map deref_pair (take count (drop first rows))) ≡ rows_of list (map deref_pair rows)
all_in list rows first count within kinds before behind =
    let from = drop first rows in
    let left : AllOfKind (map deref_pair from) = subst AllOfKind (drop-map deref_pair first rows) (kinds_left first (map deref_pair rows) kinds) in
    sym (append-nil (rows_of list (map deref_pair (take count from))))
    ∙ ap (λ (none : List Row). rows_of list (map deref_pair (take count from)) ++ none) (sym (behind_none list from count left behind))
    ∙ split_in list count from
    ∙ ap (λ (none : List Row). none ++ rows_of list (map deref_pair from)) (sym (before_none list rows first within kinds before))
    ∙ split_in list first rows

pub kinds_within : (rows : List Ref) (first count : ℕ) → AllOfKind (map deref_pair rows) → AllOfKind (map deref_pair (take count (drop first rows)))
kinds_within rows first count kinds =
    subst AllOfKind (ap (take count) (drop-map deref_pair first rows) ∙ take-map deref_pair count (drop first rows))
    (kinds_taken count (drop first (map deref_pair rows)) (kinds_left first (map deref_pair rows) kinds))

pub kind_at : (rows : List Ref) (i : ℕ) (d : Ref) → AllOfKind (map deref_pair rows) → i < length rows → IsOfKind (get_or rows i d).0.now (get_or rows i d).1.now
kind_at rows i d kinds inside =
    subst (λ (row : Row). IsOfKind row.0 row.1) (get_or-map deref_pair rows i d (deref_pair d) inside)
    (All-from_recursion (λ (row : Row). IsOfKind row.0 row.1) (map deref_pair rows) kinds i (deref_pair d) (omega (arith, inside, length-map rows deref_pair)))
