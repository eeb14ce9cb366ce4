-- Rows that are found by hash and sorted by key, seen as a finite map.
use Rattle.std.proofs.Common.{◌≡◌, ◌↔◌, Bool, true, false, List, [], ◌∷◌, Option, Some, None, IfSome, if◌then◌else◌, cond, Less, Equal, Greater, sym, ap, subst, refl, ◌∙◌, length, get_or, arith, IsPermutation}
use Rattle.std.proofs.ByRecursion.{all_shuffled}
use Rattle.std.proofs.lemmas.Bool.{false≢true}
use Rattle.std.proofs.lemmas.List.Elements.{recursion_from_All}
use Rattle.std.proofs.lemmas.List.Kept.{IsStrictlySortedBy-dedup}
use Rattle.std.proofs.lemmas.List.Sorted.{All-permutation, IsPermutation-cons, IsPermutation-map, IsPermutation-refl, IsPermutation-swap, IsPermutation-sym, IsPermutation-trans, length_permutation}
use Rattle.std.proofs.lemmas.List.Sums.{AllPass-from_list_all, list_all-from_AllPass}
use Rattle.std.proofs.lemmas.Map.Entries.{lookup_from_place}
use Rattle.std.proofs.lemmas.Map.Keys.{IsDistinct-IsPermutation}
use Rattle.std.proofs.lemmas.Option.{slice_get-get_or}
use Rattle.std.specs.Cmp.{Equal-is, IsEquivalence, eq_by_cmp_equiv}
use Rattle.std.specs.FinMap as map
use Rattle.std.specs.FinMap.Entries.{by_order}
use Rattle.std.specs.List.{AllByRecursion, IsDistinct, dedup, dedup_from, list_all}
use Rattle.std.specs.List.Sorted.{IsSorted, IsSortedBy, IsStrictlySortedBy}
use Rattle.std.specs.Map.{keys_of}
use Rattle.std.specs.Ordering.{eq_by_cmp, is_lt}
use Rattle.indexmap.proofs.MapLemmas.{lookup_permutation, sorted_keys}
use Rattle.issuer_rows.proofs.KeyLaws.{both_ways, key_cmp_total, key_cmp_antisymmetric, key_eq_decides, same_test}
use Rattle.issuer_rows.specs.Book.{AllOfKind, AreOfKind, IsWithin, value_at}
use Rattle.issuer_rows.specs.Fold.{Rows}
use Rattle.issuer_rows.specs.RowKey.{key_cmp, key_eq}
use Rattle.issuer_rows.specs.RowVal.{IsOfKind}
use Rattle.issuer_rows.specs.declared.row_key.RowKey.{RowKey}
use Rattle.issuer_rows.specs.declared.row_val.RowVal.{RowVal}

pub key_eq_equivalence : IsEquivalence key_eq
key_eq_equivalence = subst IsEquivalence (λ i k q. same_test k q i) (eq_by_cmp_equiv key_cmp_total)

find_is_value : (q : RowKey) (es : List (RowKey × RowVal)) → map.find key_cmp q es ≡ value_at es q
find_is_value q [] = refl
find_is_value q (e ∷ es) = rw (same_test q e.0) (ap (λ (r : Option RowVal). if key_eq q e.0 then Some e.1 else r) (find_is_value q es))

-- the value at a key
pub get_seen : (es : List (RowKey × RowVal)) (q : RowKey) → map.get (map.from_entries {R = key_cmp} es) q ≡ value_at es q
get_seen es q = map.get-from_entries key_cmp_total es q ∙ find_is_value q es

turned : (k q : RowKey) → eq_by_cmp key_cmp q k ≡ key_eq k q
turned k q = (eq_by_cmp_equiv key_cmp_total).symm q k ∙ same_test k q

-- a row written
pub insert_seen : (es ns : List (RowKey × RowVal)) (k : RowKey) (v : RowVal) → ((q : RowKey) → value_at ns q ≡ cond (key_eq k q) (Some v) (value_at es q))
    → map.from_entries {R = key_cmp} ns ≡ map.insert (map.from_entries es) k v
insert_seen es ns k v h =
    map.same_map key_cmp_total key_cmp_antisymmetric _ _ (λ q.
    get_seen ns q ∙ h q ∙ sym (map.get-insert key_cmp_total (map.from_entries es) k v q ∙ rw (turned k q, get_seen es q) refl))

-- a row taken out
pub remove_seen : (es ns : List (RowKey × RowVal)) (k : RowKey) → ((q : RowKey) → value_at ns q ≡ cond (key_eq k q) None (value_at es q))
    → map.from_entries {R = key_cmp} ns ≡ map.remove (map.from_entries es) k
remove_seen es ns k h =
    map.same_map key_cmp_total key_cmp_antisymmetric _ _ (λ q.
    get_seen ns q ∙ h q ∙ sym (map.get-remove key_cmp_total (map.from_entries es) k q ∙ rw (turned k q, get_seen es q) refl))

no_length : {A : Type 0} (es : List A) → length es ≡ 0 → es ≡ []
no_length [] h = refl
no_length (e ∷ es) h = absurd (omega arith)

-- an entry whose key is below all others is put in front
put_front : (e : RowKey × RowVal) (es : List (RowKey × RowVal)) → AllByRecursion (λ y. key_cmp e.0 y ≡ Less) (keys_of es) → map.put key_cmp e.0 e.1 es ≡ e ∷ es
put_front e [] h = refl
put_front e (f ∷ es) h = rw h.0 refl

ordered_entries : (es : List (RowKey × RowVal)) → IsStrictlySortedBy key_cmp (keys_of es) → map.entries (map.from_entries {R = key_cmp} es) ≡ es
unfolding IsStrictlySortedBy
ordered_entries [] h = no_length (map.entries (map.empty {X = RowVal} {R = key_cmp})) (sym (map.len-entries map.empty) ∙ map.len-empty key_cmp RowVal)
ordered_entries (e ∷ es) h =
    map.entries-insert key_cmp_total (map.from_entries es) e.0 e.1 ∙ ap (map.put key_cmp e.0 e.1) (ordered_entries es h.1) ∙ put_front e es h.0

-- a row written among rows of their kinds
pub kinds_put : (es ns : List (RowKey × RowVal)) (k : RowKey) (v : RowVal) → AreOfKind es → IsOfKind k v
    → ((q : RowKey) → value_at ns q ≡ cond (key_eq k q) (Some v) (value_at es q)) → AreOfKind ns
kinds_put es ns k v kinds kind put q =
    rw (put q) (
    elim (key_eq k q) as (λ t. key_eq k q ≡ t → IfSome (cond t (Some v) (value_at es q)) (IsOfKind q)) [
      | true ↦ λ same. subst (λ (x : RowKey). IsOfKind x v) ((key_eq_decides k q).0 same) kind
      | false ↦ λ _. kinds q
    ] refl)

-- rows without one of them
pub kinds_removed : (es ns : List (RowKey × RowVal)) (k : RowKey) → AreOfKind es → ((q : RowKey) → value_at ns q ≡ cond (key_eq k q) None (value_at es q)) → AreOfKind ns
kinds_removed es ns k kinds gone q =
    rw (gone q) (elim (key_eq k q) as (λ t. IfSome (cond t None (value_at es q)) (IsOfKind q)) [ true ↦ tt | false ↦ kinds q ])

-- neighbours that differ all stay
all_kept : (k : RowKey) (ks : List RowKey) → IsDistinct key_eq (k ∷ ks) → dedup_from key_eq k ks ≡ k ∷ ks
unfolding IsDistinct
all_kept k [] h = refl
all_kept k (l ∷ ks) h = rw (key_eq_equivalence.symm l k ∙ h.0.0) (ap (λ rest. k ∷ rest) (all_kept l ks h.1))

none_dropped : (ks : List RowKey) → IsDistinct key_eq ks → dedup key_eq ks ≡ ks
none_dropped [] h = refl
none_dropped (k ∷ ks) h = all_kept k ks h

-- keys that differ and are sorted rise
rising : (ks : List RowKey) → IsDistinct key_eq ks → IsSorted key_cmp ks → IsStrictlySortedBy key_cmp ks
rising ks distinct sorted =
    subst (IsStrictlySortedBy key_cmp) (none_dropped ks distinct)
    (IsStrictlySortedBy-dedup key_cmp_total {E = key_eq} (λ k q. sym (same_test k q)) ks sorted)

-- rows of one map in another order
same_shuffled : (es fs : List (RowKey × RowVal)) → IsPermutation es fs → IsDistinct key_eq (keys_of fs) → map.from_entries {R = key_cmp} fs ≡ map.from_entries es
same_shuffled es fs moves distinct =
    map.same_map key_cmp_total key_cmp_antisymmetric _ _ (λ q.
    get_seen fs q ∙ lookup_permutation key_eq_equivalence es fs moves distinct (key_eq q) (key_eq_equivalence.congr q) ∙ sym (get_seen es q))

distinct_shuffled : (es fs : List (RowKey × RowVal)) → IsPermutation es fs → IsDistinct key_eq (keys_of es) → IsDistinct key_eq (keys_of fs)
distinct_shuffled es fs moves distinct = IsDistinct-IsPermutation key_eq key_eq_equivalence.symm (keys_of es) (keys_of fs) (IsPermutation-map (λ e. e.0) es fs moves) distinct

-- the rows in order
pub entries_sorted : (es fs : List (RowKey × RowVal)) → IsDistinct key_eq (keys_of es) → IsPermutation es fs → IsSortedBy (λ e f. is_lt (key_cmp e.0 f.0)) fs
    → fs ≡ map.entries (map.from_entries {R = key_cmp} es)
entries_sorted es fs distinct moves sorted =
    let apart = distinct_shuffled es fs moves distinct in
    sym (ordered_entries fs (rising (keys_of fs) apart (sorted_keys (λ k q. is_lt (key_cmp k q)) fs sorted))) ∙ ap map.entries (same_shuffled es fs moves apart)

-- a row whose key is new is written somewhere among the others
put_new : (k : RowKey) (v : RowVal) (es : List (RowKey × RowVal)) → AllByRecursion (λ y. key_eq k y ≡ false) (keys_of es) → IsPermutation ((k, v) ∷ es) (map.put key_cmp k v es)
put_new k v [] h = IsPermutation-refl _
put_new k v (e ∷ es) h =
    elim (key_cmp k e.0) as (λ r. key_cmp k e.0 ≡ r → IsPermutation ((k, v) ∷ e ∷ es) (by_order r ((k, v) ∷ e ∷ es) ((e.0, v) ∷ es) (e ∷ map.put key_cmp k v es))) [
      | Less ↦ λ _. IsPermutation-refl _
      | Equal ↦ λ tie. absurd (false≢true (sym h.0 ∙ sym (same_test k e.0) ∙ (Equal-is (key_cmp k e.0)).1 tie))
      | Greater ↦ λ _. IsPermutation-trans _ _ _ (IsPermutation-swap ((k, v) ∷ e ∷ es) (e ∷ (k, v) ∷ es) 0 1 (omega arith) (omega arith) refl) (IsPermutation-cons e _ _ (put_new k v es h.1))
    ] refl

-- the rows of a map, in the order in which they came
pub entries_shuffled : (es : List (RowKey × RowVal)) → IsDistinct key_eq (keys_of es) → IsPermutation (map.entries (map.from_entries {R = key_cmp} es)) es
unfolding IsDistinct
entries_shuffled [] h =
    subst (λ (none : List (RowKey × RowVal)). IsPermutation none []) (sym (no_length (map.entries (map.empty {X = RowVal} {R = key_cmp})) (sym (map.len-entries map.empty) ∙ map.len-empty key_cmp RowVal))) (IsPermutation-refl [])
entries_shuffled (e ∷ es) h =
    let rest = entries_shuffled es h.1 in
    let back = IsPermutation-sym _ _ rest in
    let apart : AllByRecursion (λ y. key_eq e.0 y ≡ false) (keys_of (map.entries (map.from_entries {R = key_cmp} es)))
    = all_shuffled (λ y. key_eq e.0 y ≡ false) _ _ (IsPermutation-map (λ e. e.0) _ _ back) h.0 in
    subst (λ (all : List (RowKey × RowVal)). IsPermutation all (e ∷ es)) (sym (map.entries-insert key_cmp_total (map.from_entries es) e.0 e.1))
    (IsPermutation-trans _ _ _ (IsPermutation-sym _ _ (put_new e.0 e.1 _ apart)) (IsPermutation-cons e _ _ rest))

-- there are as many rows as entries
pub len_seen : (es : List (RowKey × RowVal)) → IsDistinct key_eq (keys_of es) → length es ≡ map.len (map.from_entries {R = key_cmp} es)
len_seen es h = length_permutation _ _ (entries_shuffled es h) ∙ sym (map.len-entries (map.from_entries es))

-- what holds of each key's value holds of each row
rows_hold : (P : RowKey → RowVal → Type 0) (es : List (RowKey × RowVal)) → IsDistinct key_eq (keys_of es) → ((q : RowKey) → IfSome (value_at es q) (P q)) → AllByRecursion (λ row. P row.0 row.1) es
rows_hold P es distinct h =
    recursion_from_All (λ row. P row.0 row.1) es (λ i d inside.
    let row = get_or es i d in
    subst (λ (o : Option RowVal). IfSome o (P row.0)) (lookup_from_place key_eq_equivalence es i row.0 row.1 distinct (slice_get-get_or es i d inside)) (h row.0))

-- what holds of each row holds of each key's value
value_holds : (P : RowKey → RowVal → Type 0) (es : List (RowKey × RowVal)) (q : RowKey) → AllByRecursion (λ row. P row.0 row.1) es → IfSome (value_at es q) (P q)
value_holds P [] q h = tt
value_holds P (e ∷ es) q h =
    elim (key_eq q e.0) as (λ t. key_eq q e.0 ≡ t → IfSome (cond t (Some e.1) (value_at es q)) (P q)) [
      | true ↦ λ same. subst (λ (k : RowKey). P k e.1) (sym ((key_eq_decides q e.0).0 same)) h.0
      | false ↦ λ _. value_holds P es q h.1
    ] refl

-- each row of a map is of its key's kind
pub kinds_sorted : (es : List (RowKey × RowVal)) → IsDistinct key_eq (keys_of es) → AreOfKind es → AllOfKind (map.entries (map.from_entries {R = key_cmp} es))
kinds_sorted es distinct kinds =
    all_shuffled (λ row. IsOfKind row.0 row.1) _ _ (IsPermutation-sym _ _ (entries_shuffled es distinct)) (rows_hold IsOfKind es distinct kinds)

-- each of these rows is a row of the other map
pub within_rows : (es : List (RowKey × RowVal)) (theirs : Rows) → IsDistinct key_eq (keys_of es) → AllByRecursion (λ row. map.get theirs row.0 ≡ Some row.1) es ↔ IsWithin (map.from_entries es) theirs
within_rows es theirs distinct = (
  λ h q. subst (λ (o : Option RowVal). IfSome o (λ val. map.get theirs q ≡ Some val)) (sym (get_seen es q)) (value_holds (λ k v. map.get theirs k ≡ Some v) es q h),
  λ h. rows_hold (λ k v. map.get theirs k ≡ Some v) es distinct (λ q. subst (λ (o : Option RowVal). IfSome o (λ val. map.get theirs q ≡ Some val)) (get_seen es q) (h q)),
)

same_values : (o p : Option RowVal) → IfSome o (λ v. p ≡ Some v) → IfSome p (λ v. o ≡ Some v) → o ≡ p
same_values (Some v) p there back = sym there
same_values None (Some v) there back = back
same_values None None there back = refl

own_value : (o : Option RowVal) → IfSome o (λ v. o ≡ Some v)
own_value (Some v) = refl
own_value None = tt

-- maps are the same where each has the rows of the other
pub same_both_ways : (m n : Rows) → (IsWithin m n × IsWithin n m) ↔ (m ≡ n)
same_both_ways m n = (
  λ h. map.same_map key_cmp_total key_cmp_antisymmetric m n (λ q. same_values (map.get m q) (map.get n q) (h.0 q) (h.1 q)),
  λ same. (λ q. subst (λ (x : Rows). IfSome (map.get m q) (λ v. map.get x q ≡ Some v)) same (own_value (map.get m q)), λ q. subst (λ (x : Rows). IfSome (map.get x q) (λ v. map.get m q ≡ Some v)) same (own_value (map.get m q))),
)

-- whether all rows pass a test doesn't depend on their order
pub all_pass_shuffled : (p : RowKey × RowVal → Bool) (es fs : List (RowKey × RowVal)) → IsPermutation es fs → list_all p fs ≡ list_all p es
all_pass_shuffled p es fs moves =
    let carried : (xs ys : List (RowKey × RowVal)) → IsPermutation xs ys → list_all p xs ≡ true → list_all p ys ≡ true =
    λ xs ys m h. list_all-from_AllPass p ys (All-permutation (λ x. p x ≡ true) xs ys m (AllPass-from_list_all p xs h)) in
    both_ways _ _ (carried fs es (IsPermutation-sym es fs moves)) (carried es fs moves)
