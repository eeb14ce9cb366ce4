-- The key of the first joined row that isn't the same in both books is the least whose row differs.
use Rattle.std.proofs.Common.{◌≡◌, ◌≢◌, ◌⊎◌, Bool, true, false, ◌&&◌, T, inl, inr, List, [], ◌∷◌, Option, Some, None, cond, Ordering, Less, Equal, Greater, refl, sym, ap, subst, ◌∙◌}
use Rattle.std.proofs.lemmas.Option.{none-some, same_Some}
use Rattle.std.proofs.lemmas.Cmp.{tied_itself}
use Rattle.std.specs.FinMap as map
use Rattle.std.specs.Ordering.{eq_by_cmp, is_eq, is_lt, ordering_reverse}
use Rattle.issuer_rows.proofs.KeyLaws.{key_cmp_total, key_cmp_antisymmetric}
use Rattle.issuer_words.specs.Words.{RowKey, RowVal, Rows, key_cmp}
use Rattle.app_audit.specs.Difference.{IsLeastDifference}
use Rattle.app_audit.proofs.Joined.{Row, FindsFirst, by_key, join, join_by, same_row}

first_of_both : (a b : Bool) → T (a && b) → T a
first_of_both true b p = tt
first_of_both false b p = p

second_of_both : (a b : Bool) → T (a && b) → T b
second_of_both true b p = p
second_of_both false b p = absurd p

less : (o : Ordering) → T (is_lt o) → o ≡ Less
less Less p = refl
less Equal p = absurd p
less Greater p = absurd p

-- the rows stand in the order of their keys
abbrev IsOrdered : List Row → Type 0
IsOrdered rows = T (map.is_sorted key_cmp rows)

first_less : (row next : Row) (rows : List Row) → IsOrdered (row ∷ next ∷ rows) → key_cmp row.0 next.0 ≡ Less
first_less row next rows sorted = less _ (first_of_both _ _ (first_of_both _ _ sorted))

-- a key below the first of rows in order has no row
missing : (q : RowKey) (row : Row) (rows : List Row) → IsOrdered (row ∷ rows) → key_cmp q row.0 ≡ Less → map.find key_cmp q (row ∷ rows) ≡ None
missing q row [] sorted low = ap (λ (o : Ordering). cond (is_eq o) (Some row.1) None) low
missing q row (next ∷ rows) sorted low =
    let up = first_less row next rows sorted in
    ap (λ (o : Ordering). cond (is_eq o) (Some row.1) (map.find key_cmp q (next ∷ rows))) low
    ∙ missing q next rows (second_of_both _ _ sorted) (key_cmp_total.trans q row.0 next.0 low up)

-- the first row's key has its value
found : (row : Row) (rows : List Row) → map.find key_cmp row.0 (row ∷ rows) ≡ Some row.1
found row rows = ap (λ (o : Ordering). cond (is_eq o) (Some row.1) (map.find key_cmp row.0 rows)) (tied_itself key_cmp_total row.0)

sorted_tail : (row : Row) (rows : List Row) → IsOrdered (row ∷ rows) → IsOrdered rows
sorted_tail row [] sorted = tt
sorted_tail row (next ∷ rows) sorted = second_of_both _ _ sorted

-- here the rows differ, and not at a lesser key
abbrev DiffersFirst : List Row → List Row → RowKey → Type 0
DiffersFirst xs ys key = (map.find key_cmp key xs ≢ map.find key_cmp key ys) × ((q : RowKey) → key_cmp q key ≡ Less → map.find key_cmp q xs ≡ map.find key_cmp q ys)

-- The rows begin with this key, and the others with a greater one, with another value of it, or not at all.
abbrev BeginsWithLesser : List Row → List Row → RowKey → Type 0
BeginsWithLesser [] others key = ⊥
BeginsWithLesser (row ∷ rows) [] key = key ≡ row.0
BeginsWithLesser (row ∷ rows) (other ∷ others) key = (key ≡ row.0) × ((key_cmp row.0 other.0 ≡ Less) ⊎ ((row.0 ≡ other.0) × (row.1 ≢ other.1)))

lower : (q k l : RowKey) → k ≡ l → key_cmp q k ≡ Less → key_cmp q l ≡ Less
lower q k l same low = subst (λ (x : RowKey). key_cmp q x ≡ Less) same low

at_found : (x : Row) (xs : List Row) (key : RowKey) → key ≡ x.0 → map.find key_cmp key (x ∷ xs) ≡ Some x.1
at_found x xs key is = ap (λ (k : RowKey). map.find key_cmp k (x ∷ xs)) is ∙ found x xs

at_front : (xs ys : List Row) (key : RowKey) → IsOrdered xs → IsOrdered ys → BeginsWithLesser xs ys key → DiffersFirst xs ys key
at_front [] ys key g h begins = absurd begins
at_front (x ∷ xs) [] key g h is = (
  λ same. none-some x.1 (sym same ∙ at_found x xs key is),
  λ q low. missing q x xs g (lower q key x.0 is low),
)
at_front (x ∷ xs) (y ∷ ys) key g h begins =
    let is : key ≡ x.0 = begins.0 in
    elim begins.1 [
      | inl less ↦ (
        λ same. none-some x.1 (sym (missing key y ys h (subst (λ (k : RowKey). key_cmp k y.0 ≡ Less) (sym is) less)) ∙ sym same ∙ at_found x xs key is),
        λ q low. let under = lower q key x.0 is low in missing q x xs g under ∙ sym (missing q y ys h (key_cmp_total.trans q x.0 y.0 under less)),
      )
      | inr other ↦ (
        λ same. other.1 (same_Some x.1 y.1 (sym (at_found x xs key is) ∙ same ∙ at_found y ys key (is ∙ other.0))),
        λ q low. missing q x xs g (lower q key x.0 is low) ∙ sym (missing q y ys h (lower q key y.0 (is ∙ other.0) low)),
      )
    ]

-- a key above that of the first row is looked for behind it
passed : (e : Row) (rows : List Row) (key : RowKey) → key_cmp key e.0 ≡ Greater → map.find key_cmp key (e ∷ rows) ≡ map.find key_cmp key rows
passed e rows key up = ap (λ (o : Ordering). cond (is_eq o) (Some e.1) (map.find key_cmp key rows)) up

other_way : (xs ys : List Row) (key : RowKey) → DiffersFirst xs ys key → DiffersFirst ys xs key
other_way xs ys key d = (λ same. d.0 (sym same), λ q low. sym (d.1 q low))

-- a key that is not above that of the first row has no row behind it
none_behind : (key : RowKey) (row : Row) (rows : List Row) → IsOrdered (row ∷ rows) → key_cmp key row.0 ≢ Greater → map.find key_cmp key rows ≡ None
none_behind key row [] sorted low = refl
none_behind key row (next ∷ rows) sorted low = missing key next rows (second_of_both _ _ sorted) (at (key_cmp key row.0) refl)
  where
    at : (o : Ordering) → key_cmp key row.0 ≡ o → key_cmp key next.0 ≡ Less
    at Less is = key_cmp_total.trans key row.0 next.0 is (first_less row next rows sorted)
    at Equal is = subst (λ (k : RowKey). key_cmp k next.0 ≡ Less) (sym (key_cmp_antisymmetric key row.0 is)) (first_less row next rows sorted)
    at Greater is = absurd (low is)

-- one more row at the front of both
one_more : (row : Row) (xs ys : List Row) (key : RowKey) → IsOrdered (row ∷ xs) → IsOrdered (row ∷ ys) → DiffersFirst xs ys key → DiffersFirst (row ∷ xs) (row ∷ ys) key
one_more row xs ys key g h d = (
  λ same. let low = λ (up : key_cmp key row.0 ≡ Greater). d.0 (sym (passed row xs key up) ∙ same ∙ passed row ys key up) in d.0 (none_behind key row xs g low ∙ sym (none_behind key row ys h low)),
  λ q low. ap (λ (o : Option RowVal). cond (eq_by_cmp key_cmp q row.0) (Some row.1) o) (d.1 q low),
)

differ_by : (x y : Row) (xs ys : List Row) (key : RowKey) → IsOrdered (x ∷ xs) → IsOrdered (y ∷ ys) → (FindsFirst (join xs ys) (Some key) → DiffersFirst xs ys key)
    → (o : Ordering) → by_key x y ≡ o → FindsFirst (join_by o x y xs ys) (Some key) → DiffersFirst (x ∷ xs) (y ∷ ys) key
differ_by x y xs ys key g h behind Less is (inl here) = at_front (x ∷ xs) (y ∷ ys) key g h (here, inl is)
differ_by x y xs ys key g h behind Less is (inr same) = absurd same.0
differ_by x y xs ys key g h behind Equal is (inl here) = at_front (x ∷ xs) (y ∷ ys) key g h (here.0, inr (key_cmp_antisymmetric x.0 y.0 is, here.1))
differ_by x y xs ys key g h behind Equal is (inr same) =
    let row : x ≡ y = same_row x y is same.0 in
    subst (λ (z : Row). DiffersFirst (x ∷ xs) (z ∷ ys) key) row (one_more x xs ys key g (subst (λ (z : Row). IsOrdered (z ∷ ys)) (sym row) h) (behind same.1))
differ_by x y xs ys key g h behind Greater is (inl here) =
    other_way (y ∷ ys) (x ∷ xs) key (at_front (y ∷ ys) (x ∷ xs) key h g (here, inl (key_cmp_total.antisymm y.0 x.0 ∙ ap ordering_reverse is)))
differ_by x y xs ys key g h behind Greater is (inr same) = absurd same.0

differ : (mine theirs : List Row) (key : RowKey) → IsOrdered mine → IsOrdered theirs → FindsFirst (join mine theirs) (Some key) → DiffersFirst mine theirs key
differ [] [] key g h none = absurd (none-some key (sym none))
differ [] (y ∷ ys) key g h (inl here) = other_way (y ∷ ys) [] key (at_front (y ∷ ys) [] key h g here)
differ [] (y ∷ ys) key g h (inr same) = absurd same.0
differ (x ∷ xs) [] key g h (inl here) = at_front (x ∷ xs) [] key g h here
differ (x ∷ xs) [] key g h (inr same) = absurd same.0
differ (x ∷ xs) (y ∷ ys) key g h finds =
    differ_by x y xs ys key g h (differ xs ys key (sorted_tail x xs g) (sorted_tail y ys h)) (by_key x y) refl finds

pub least : (book right : Rows) (key : RowKey) → FindsFirst (join (map.entries book) (map.entries right)) (Some key) → IsLeastDifference book right key
least book right key finds =
    let d = differ (map.entries book) (map.entries right) key (map.entries_sorted book) (map.entries_sorted right) finds in
    record {
      here = λ same. d.0 (sym (map.get-entries book key) ∙ same ∙ map.get-entries right key);
      below = λ q low. map.get-entries book q ∙ d.1 q low ∙ sym (map.get-entries right q);
    }
