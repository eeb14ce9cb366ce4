-- A sum over the rows of a book, when a row is written.
use Rattle.std.proofs.Common.{◌≡◌, ℕ, ◌+◌, Bool, true, false, cond, ◌&&◌, List, [], ◌∷◌, Option, Some, None, Ordering, Less, Equal, Greater, refl, sym, ap, ◌∙◌, arith}
use Rattle.std.proofs.lemmas.List.Sums.{sum_by-cons}
use Rattle.std.specs.FinMap as map
use Rattle.std.specs.FinMap.Entries as place
use Rattle.std.specs.List.{sum_by}
use Rattle.std.specs.Ordering.{is_lt, is_eq}
use lib.Dec.{T}
use Rattle.issuer_rows.proofs.KeyLaws.{key_cmp_total, key_cmp_antisymmetric}
use Rattle.issuer_words.specs.Words.{RowKey, RowVal, Rows, key_cmp}

-- a row, or that there is none, as a part of a sum over rows
abbrev pub part : (RowKey × RowVal → ℕ) → RowKey → Option RowVal → ℕ
part f k None = 0
part f k (Some v) = f (k, v)

abbrev Row : Type 0
Row = RowKey × RowVal

less : (o : Ordering) → T (is_lt o) → o ≡ Less
less Less h = refl
less Equal h = absurd h
less Greater h = absurd h

first : (a b : Bool) → T (a && b) → T a
first true b h = tt
first false b h = h

second : (a b : Bool) → T (a && b) → T b
second true b h = h
second false b h = absurd h

-- a key below the first of rows in order is not among them
nothing_below : (k : RowKey) (e : Row) (es : List Row) → key_cmp k e.0 ≡ Less → T (place.is_sorted key_cmp (e ∷ es)) → place.find key_cmp k (e ∷ es) ≡ None
nothing_below k e [] p h = ap (λ (o : Ordering). cond (is_eq o) (Some e.1) None) p
nothing_below k e (g ∷ gs) p h =
    ap (λ (o : Ordering). cond (is_eq o) (Some e.1) (place.find key_cmp k (g ∷ gs))) p
    ∙ nothing_below k g gs (key_cmp_total.trans k e.0 g.0 p (less _ (first _ _ (first _ _ h)))) (second _ _ h)

-- rows in order, when one is written among them
sum-put : (f : Row → ℕ) (k : RowKey) (v : RowVal) (es : List Row) → T (place.is_sorted key_cmp es) → sum_by f (place.put key_cmp k v es) + part f k (place.find key_cmp k es) ≡ f (k, v) + sum_by f es
sum-put f k v [] h = omega (arith, sum_by-cons f (k, v) [])
sum-put f k v (e ∷ es) h =
    elim (key_cmp k e.0) as (λ o. key_cmp k e.0 ≡ o → sum_by f (place.by_order o ((k, v) ∷ e ∷ es) ((e.0, v) ∷ es) (e ∷ place.put key_cmp k v es)) + part f k (place.find key_cmp k (e ∷ es)) ≡ f (k, v) + sum_by f (e ∷ es)) [
      | Less ↦ λ p. omega (arith, sum_by-cons f (k, v) (e ∷ es), ap (part f k) (nothing_below k e es p h))
      | Equal ↦ λ p.
          let same = key_cmp_antisymmetric k e.0 p in
          let old : part f k (place.find key_cmp k (e ∷ es)) ≡ f e = ap (λ (o : Ordering). part f k (cond (is_eq o) (Some e.1) (place.find key_cmp k es))) p ∙ ap (λ (q : RowKey). f (q, e.1)) same in
          let new : f (e.0, v) ≡ f (k, v) = ap (λ (q : RowKey). f (q, v)) (sym same) in
          omega (arith, sum_by-cons f (e.0, v) es, sum_by-cons f e es, old, new)
      | Greater ↦ λ p.
          let old : part f k (place.find key_cmp k (e ∷ es)) ≡ part f k (place.find key_cmp k es) = ap (λ (o : Ordering). part f k (cond (is_eq o) (Some e.1) (place.find key_cmp k es))) p in
          let rest : sum_by f (place.put key_cmp k v es) + part f k (place.find key_cmp k es) ≡ f (k, v) + sum_by f es = sum-put f k v es (second (place.below_all key_cmp e.0 es) (place.is_sorted key_cmp es) h) in
          omega (arith, sum_by-cons f e (place.put key_cmp k v es), sum_by-cons f e es, old, rest)
    ] refl

-- the sum after a row is written, with the old row's part, is the sum before, with the new row's
pub sum-insert : (f : Row → ℕ) (rows : Rows) (k : RowKey) (v : RowVal) → sum_by f (map.entries (map.insert rows k v)) + part f k (map.get rows k) ≡ f (k, v) + sum_by f (map.entries rows)
sum-insert f rows k v =
    let new = ap (sum_by f) (map.entries-insert key_cmp_total rows k v) in
    let old = ap (part f k) (map.get-entries rows k) in
    let rest = sum-put f k v (map.entries rows) (map.entries_sorted rows) in
    omega (arith, new, old, rest)
