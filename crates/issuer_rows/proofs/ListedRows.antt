-- The rows of a book, listed.
use Rattle.std.proofs.Common.{◌≡◌, Bool, true, false, ◌&&◌, List, [], ◌∷◌, Option, Some, None, IfSome, Ordering, Less, Equal, Greater, refl, sym, ap, ◌∙◌}
use Rattle.std.specs.FinMap as map
use Rattle.std.specs.FinMap.Entries.{below_all, is_sorted}
use Rattle.std.specs.List.{AllByRecursion, IsDistinct}
use Rattle.std.specs.Map.{keys_of}
use Rattle.std.specs.Ordering.{is_eq, is_lt}
use lib.Dec.{T}
use Rattle.issuer_rows.proofs.BookLaws.{within_rows}
use Rattle.issuer_rows.proofs.KeyLaws.{key_cmp_total, same_test}
use Rattle.issuer_rows.specs.Fold.{Rows}
use Rattle.issuer_rows.specs.RowKey.{key_cmp, key_eq}
use Rattle.issuer_rows.specs.declared.row_key.RowKey.{RowKey}
use Rattle.issuer_rows.specs.declared.row_val.RowVal.{RowVal}

less : (o : Ordering) → T (is_lt o) → o ≡ Less
less Less h = refl
less Equal h = absurd h
less Greater h = absurd h

first : (a b : Bool) → T (a && b) → T a
first true b h = tt
first false b h = h

second : (a b : Bool) → T (a && b) → T b
second true b h = h
second false b h = absurd h

below_differs : (k : RowKey) (es : List (RowKey × RowVal)) → T (below_all key_cmp k es) → AllByRecursion (λ y. key_eq k y ≡ false) (keys_of es)
below_differs k [] h = tt
below_differs k (e ∷ es) h =
    (sym (same_test k e.0) ∙ ap is_eq (less (key_cmp k e.0) (first _ _ h)), below_differs k es (second _ _ h))

sorted_distinct : (es : List (RowKey × RowVal)) → T (is_sorted key_cmp es) → IsDistinct key_eq (keys_of es)
unfolding IsDistinct
sorted_distinct [] h = tt
sorted_distinct (e ∷ es) h = (below_differs e.0 es (first (below_all key_cmp e.0 es) (is_sorted key_cmp es) h), sorted_distinct es (second (below_all key_cmp e.0 es) (is_sorted key_cmp es) h))

own_value : (o p : Option RowVal) → o ≡ p → IfSome o (λ v. p ≡ Some v)
own_value (Some v) p e = sym e
own_value None p e = tt

-- each row that is listed is found
pub listed_found : (m : Rows) → AllByRecursion (λ e. map.get m e.0 ≡ Some e.1) (map.entries m)
listed_found m =
    (within_rows (map.entries m) m (sorted_distinct (map.entries m) (map.entries_sorted m))).1
    (λ q. own_value _ _ (map.get-from_entries key_cmp_total (map.entries m) q ∙ sym (map.get-entries m q)))
