-- Lists in which each row stands once.
use Rattle.std.proofs.Common.{Result, Ok, Err, OnOk, OnErr, ◌≡◌, ℕ, zero, suc, ◌+◌, Bool, true, false, cond, if◌then◌else◌, List, [], ◌∷◌, ◌++◌, map, drop, slice_get, Some, None, refl, sym, subst, ap, ◌∙◌, add-one}
use Rattle.std.proofs.Math.ListN.{set}
use Rattle.std.proofs.Math.Seq.{drop-cons}
use Rattle.std.proofs.lemmas.Bool.{false≢true}
use Rattle.std.proofs.lemmas.Option.{none-some, same_Some, slice_get_within, get_or_from_slice_get}
use Rattle.std.specs.List.{AllByRecursion, IsDistinct}
use Rattle.indexmap.specs.IndexMap.{insert_entry}
use Rattle.issuer_rows.proofs.KeyLaws.{key_eq_decides}
use Rattle.issuer_words.specs.Words.{RowKey, key_eq}
use Rattle.issuer_view.specs.Words.{IsOnceEach, value_in}

-- two rows that differ, either way round
turned : (a b : RowKey) → key_eq a b ≡ false → key_eq b a ≡ false
turned a b other =
    elim (key_eq b a) as (λ t. key_eq b a ≡ t → t ≡ false) [
      | true ↦ λ same. absurd (false≢true (sym other ∙ (key_eq_decides a b).1 (sym ((key_eq_decides b a).0 same))))
      | false ↦ λ _. refl
    ] refl

module _ {V : Type 0} where
  abbrev rows_in : List (RowKey × V) → List RowKey
  rows_in es = map (λ e. e.0) es

  -- a row that isn't there goes last
  pub inserted_last : (es : List (RowKey × V)) (key : RowKey) (value : V) → value_in es key ≡ None → insert_entry key_eq es key value ≡ es ++ (key, value) ∷ []
  inserted_last [] key value none = refl
  inserted_last (e ∷ es) key value none =
      elim (key_eq key e.0) as (λ t. cond t (Some e.1) (value_in es key) ≡ None → (if t then (e.0, value) ∷ es else e ∷ insert_entry key_eq es key value) ≡ e ∷ (es ++ (key, value) ∷ [])) [
        | true ↦ λ met. absurd (none-some e.1 (sym met))
        | false ↦ λ rest. ap (λ done. e ∷ done) (inserted_last es key value rest)
      ] none

  all_standing : (P : RowKey → Type 0) (es : List (RowKey × V)) (i : ℕ) (e : RowKey × V) → AllByRecursion P (rows_in es) → slice_get es i ≡ Some e → P e.0
  all_standing P [] i e all at = absurd (none-some e at)
  all_standing P (x ∷ es) zero e all at = subst (λ (y : RowKey × V). P y.0) (same_Some x e at) all.0
  all_standing P (x ∷ es) (suc i) e all at = all_standing P es i e all.1 at

  -- a row that is there keeps its place
  pub inserted_there : (es : List (RowKey × V)) (i : ℕ) (key : RowKey) (old value : V) → IsOnceEach es → slice_get es i ≡ Some (key, old)
      → insert_entry key_eq es key value ≡ set es i (key, value)
  unfolding IsDistinct
  inserted_there [] i key old value once at = absurd (none-some (key, old) at)
  inserted_there (e ∷ es) zero key old value once at =
      let same : e.0 ≡ key = ap (λ (y : RowKey × V). y.0) (same_Some e (key, old) at) in
      rw ((key_eq_decides key e.0).1 (sym same)) (ap (λ (k : RowKey). (k, value) ∷ es) same)
  inserted_there (e ∷ es) (suc i) key old value once at =
      rw (turned e.0 key (all_standing (λ y. key_eq e.0 y ≡ false) es i (key, old) once.0 at))
      (ap (λ done. e ∷ done) (inserted_there es i key old value once.1 at))

  all_inserted : (P : RowKey → Type 0) (es : List (RowKey × V)) (key : RowKey) (value : V) → AllByRecursion P (rows_in es) → P key → AllByRecursion P (rows_in (insert_entry key_eq es key value))
  all_inserted P [] key value all this = (this, tt)
  all_inserted P (e ∷ es) key value all this =
      elim (key_eq key e.0) as (λ t. AllByRecursion P (rows_in (if t then (e.0, value) ∷ es else e ∷ insert_entry key_eq es key value))) [
        | true ↦ all
        | false ↦ (all.0, all_inserted P es key value all.1 this)
      ]

  -- no row stands twice after one is written
  pub inserted_once : (es : List (RowKey × V)) (key : RowKey) (value : V) → IsOnceEach es → IsOnceEach (insert_entry key_eq es key value)
  unfolding IsDistinct
  inserted_once [] key value once = (tt, tt)
  inserted_once (e ∷ es) key value once =
      elim (key_eq key e.0) as (λ t. key_eq key e.0 ≡ t → IsOnceEach (if t then (e.0, value) ∷ es else e ∷ insert_entry key_eq es key value)) [
        | true ↦ λ _. once
        | false ↦ λ other. (all_inserted (λ y. key_eq e.0 y ≡ false) es key value once.0 (turned key e.0 other), inserted_once es key value once.1)
      ] refl

  left_at : (es : List (RowKey × V)) (i : ℕ) (e : RowKey × V) → slice_get es i ≡ Some e → drop i es ≡ e ∷ drop (i + 1) es
  left_at es i e at = rw add-one (drop-cons es i e (slice_get_within es i e at) ∙ ap (λ y. y ∷ drop (suc i) es) (get_or_from_slice_get es i e e at))

  -- the row that was looked for is the first of those that are left
  pub met_at : (es : List (RowKey × V)) (i : ℕ) (e : RowKey × V) (key : RowKey) → slice_get es i ≡ Some e → key_eq key e.0 ≡ true → value_in (drop i es) key ≡ Some e.1
  met_at es i e key at met = ap (λ (rest : List (RowKey × V)). value_in rest key) (left_at es i e at) ∙ ap (λ (t : Bool). cond t (Some e.1) (value_in (drop (i + 1) es) key)) met

  -- the first of those that are left is another
  pub passed_at : (es : List (RowKey × V)) (i : ℕ) (e : RowKey × V) (key : RowKey) → slice_get es i ≡ Some e → key_eq key e.0 ≡ false → value_in (drop (i + 1) es) key ≡ value_in (drop i es) key
  passed_at es i e key at other = sym (ap (λ (rest : List (RowKey × V)). value_in rest key) (left_at es i e at) ∙ ap (λ (t : Bool). cond t (Some e.1) (value_in (drop (i + 1) es) key)) other)

  -- a row that is in the front list
  pub found_front : (xs ys : List (RowKey × V)) (key : RowKey) (value : V) → value_in xs key ≡ Some value → value_in (xs ++ ys) key ≡ Some value
  found_front [] ys key value found = absurd (none-some value found)
  found_front (x ∷ xs) ys key value found =
      elim (key_eq key x.0) as (λ t. cond t (Some x.1) (value_in xs key) ≡ Some value → cond t (Some x.1) (value_in (xs ++ ys) key) ≡ Some value) [
        | true ↦ λ this. this
        | false ↦ λ rest. found_front xs ys key value rest
      ] found

  -- a row that is not
  pub found_behind : (xs ys : List (RowKey × V)) (key : RowKey) → value_in xs key ≡ None → value_in (xs ++ ys) key ≡ value_in ys key
  found_behind [] ys key none = refl
  found_behind (x ∷ xs) ys key none =
      elim (key_eq key x.0) as (λ t. cond t (Some x.1) (value_in xs key) ≡ None → cond t (Some x.1) (value_in (xs ++ ys) key) ≡ value_in ys key) [
        | true ↦ λ met. absurd (none-some x.1 (sym met))
        | false ↦ λ rest. found_behind xs ys key rest
      ] none

  -- a row that is in neither list
  pub absent_front : (xs ys : List (RowKey × V)) (key : RowKey) → value_in (xs ++ ys) key ≡ None → value_in xs key ≡ None
  absent_front [] ys key none = refl
  absent_front (x ∷ xs) ys key none =
      elim (key_eq key x.0) as (λ t. cond t (Some x.1) (value_in (xs ++ ys) key) ≡ None → cond t (Some x.1) (value_in xs key) ≡ None) [
        | true ↦ λ met. met
        | false ↦ λ rest. absent_front xs ys key rest
      ] none

  front_place : (xs ys : List (RowKey × V)) (i : ℕ) (e : RowKey × V) → slice_get xs i ≡ Some e → slice_get (xs ++ ys) i ≡ Some e
  front_place [] ys i e at = absurd (none-some e at)
  front_place (x ∷ xs) ys zero e at = at
  front_place (x ∷ xs) ys (suc i) e at = front_place xs ys i e at

  -- a row that stands at a place of the front list
  pub found_at : (xs ys : List (RowKey × V)) (i : ℕ) (key : RowKey) (value : V) → IsOnceEach (xs ++ ys) → slice_get xs i ≡ Some (key, value) → value_in (xs ++ ys) key ≡ Some value
  unfolding IsDistinct
  found_at [] ys i key value once at = absurd (none-some (key, value) at)
  found_at (x ∷ xs) ys zero key value once at =
      let this = same_Some x (key, value) at in
      rw ((key_eq_decides key x.0).1 (sym (ap (λ (y : RowKey × V). y.0) this))) (ap (λ (y : RowKey × V). Some y.1) this)
  found_at (x ∷ xs) ys (suc i) key value once at =
      rw (turned x.0 key (all_standing (λ y. key_eq x.0 y ≡ false) (xs ++ ys) i (key, value) once.0 (front_place xs ys i (key, value) at)))
      (found_at xs ys i key value once.1 at)

  -- such a row written again
  pub put_front : (xs ys : List (RowKey × V)) (i : ℕ) (key : RowKey) (old value : V) → IsOnceEach (xs ++ ys) → slice_get xs i ≡ Some (key, old)
      → insert_entry key_eq (xs ++ ys) key value ≡ set xs i (key, value) ++ ys
  unfolding IsDistinct
  put_front [] ys i key old value once at = absurd (none-some (key, old) at)
  put_front (x ∷ xs) ys zero key old value once at =
      let same : x.0 ≡ key = ap (λ (y : RowKey × V). y.0) (same_Some x (key, old) at) in
      rw ((key_eq_decides key x.0).1 (sym same)) (ap (λ (k : RowKey). (k, value) ∷ (xs ++ ys)) same)
  put_front (x ∷ xs) ys (suc i) key old value once at =
      rw (turned x.0 key (all_standing (λ y. key_eq x.0 y ≡ false) (xs ++ ys) i (key, old) once.0 (front_place xs ys i (key, old) at)))
      (ap (λ done. x ∷ done) (put_front xs ys i key old value once.1 at))

  -- a row written that is not in the front list
  pub put_behind : (xs ys : List (RowKey × V)) (key : RowKey) (value : V) → value_in xs key ≡ None → insert_entry key_eq (xs ++ ys) key value ≡ xs ++ insert_entry key_eq ys key value
  put_behind [] ys key value none = refl
  put_behind (x ∷ xs) ys key value none =
      elim (key_eq key x.0) as (λ t. cond t (Some x.1) (value_in xs key) ≡ None → (if t then (x.0, value) ∷ (xs ++ ys) else x ∷ insert_entry key_eq (xs ++ ys) key value) ≡ x ∷ (xs ++ insert_entry key_eq ys key value)) [
        | true ↦ λ met. absurd (none-some x.1 (sym met))
        | false ↦ λ rest. ap (λ done. x ∷ done) (put_behind xs ys key value rest)
      ] none

-- no row stands twice where there is none
pub once_none : (V : Type 0) → IsOnceEach {V = V} []
unfolding IsDistinct
once_none V = tt

-- nothing behind
nothing_behind : {A : Type 0} (xs : List A) → xs ++ [] ≡ xs
nothing_behind [] = refl
nothing_behind (x ∷ xs) = ap (λ rest. x ∷ rest) (nothing_behind xs)

module _ {V : Type 0} (few more : List (RowKey × V)) (key : RowKey) (value : V) (none : value_in few key ≡ None) where
  -- a row appended to the front list, where nothing stands behind it
  pub put_among : (now : List (RowKey × V)) → more ≡ [] → now ≡ few ++ (key, value) ∷ [] → insert_entry key_eq (few ++ more) key value ≡ now ++ more
  put_among now empty last =
      subst (λ (rest : List (RowKey × V)). insert_entry key_eq (few ++ rest) key value ≡ now ++ rest) (sym empty)
      (put_behind few [] key value none ∙ sym last ∙ sym (nothing_behind now))

  -- a row appended behind the front list
  pub put_after : value_in (few ++ more) key ≡ None → insert_entry key_eq (few ++ more) key value ≡ few ++ (more ++ (key, value) ∷ [])
  put_after absent =
      put_behind few more key value none ∙ ap (λ rest. few ++ rest) (inserted_last more key value (sym (found_behind few more key none) ∙ absent))

-- what holds anyway holds after an error
pub on_err : {T E : Type 0} {P : Type 0} (r : Result T E) → P → OnErr r P
on_err (Ok x) p = tt
on_err (Err e) p = p

-- and after a success
pub on_ok : {T E : Type 0} {P : Type 0} (r : Result T E) → P → OnOk r P
on_ok (Ok x) p = p
on_ok (Err e) p = tt
