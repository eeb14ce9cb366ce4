-- Rows in a list where each is once, and numbers in a list.
use Rattle.std.proofs.Common.{◌≡◌, ◌≢◌, ℕ, zero, suc, ◌<◌, Bool, true, false, cond, List, [], ◌∷◌, ◌++◌, length, map, slice_get, Option, Some, None, refl, sym, ap, ◌∙◌, ◌⊎◌, inl, inr, Ordering, Less, Equal, Greater, arith}
use Rattle.std.proofs.lemmas.Bool.{false≢true}
use Rattle.std.proofs.lemmas.Option.{none-some, same_Some}
use Rattle.std.proofs.lemmas.Cmp.{tied_itself}
use Rattle.std.specs.FinMap as finite
use Rattle.std.specs.List.{IsDistinct, remove}
use Rattle.std.specs.Ordering.{eq_by_cmp, is_eq}
use Rattle.issuer_rows.proofs.KeyLaws.{key_eq_decides, key_cmp_total, key_cmp_antisymmetric}
use Rattle.issuer_words.specs.Words.{RowKey, RowVal, Rows, key_cmp, key_eq, overlay}
use Rattle.issuer_view.specs.Words.{IsOnceEach}
use Rattle.issuer_view.specs.Words.{value_in}
use Rattle.stm_memory.specs.Entries.{written}
use Rattle.stm_memory.proofs.RowLaws.{rows_cases, all_at, key_other}

module _ {V : Type 0} where
  met : (e : RowKey × V) (es : List (RowKey × V)) (row : RowKey) → row ≡ e.0 → value_in (e ∷ es) row ≡ Some e.1
  met e es row same = ap (λ (b : Bool). cond b (Some e.1) (value_in es row)) ((key_eq_decides row e.0).1 same)

  passed : (e : RowKey × V) (es : List (RowKey × V)) (row : RowKey) → row ≢ e.0 → value_in (e ∷ es) row ≡ value_in es row
  passed e es row ne = ap (λ (b : Bool). cond b (Some e.1) (value_in es row)) (key_other row e.0 ne)

  -- a row that has a value stands somewhere
  pub standing : (es : List (RowKey × V)) (row : RowKey) (value : V) → value_in es row ≡ Some value → (k : ℕ) × (slice_get es k ≡ Some (row, value))
  standing [] row value is = absurd (none-some value is)
  standing (e ∷ es) row value is =
      elim (rows_cases row e.0) [
        | inl same ↦ (0, ap Some (λ i. (sym same i, same_Some e.1 value (sym (met e es row same) ∙ is) i)))
        | inr ne ↦ let rest = standing es row value (sym (passed e es row ne) ∙ is) in (suc rest.0, rest.1)
      ]

  rows_there : (es : List (RowKey × V)) (k : ℕ) (e : RowKey × V) → slice_get es k ≡ Some e → slice_get (map (λ x. x.0) es) k ≡ Some e.0
  rows_there [] k e at = absurd (none-some e at)
  rows_there (x ∷ es) zero e at = ap Some (ap (λ (y : RowKey × V). y.0) (same_Some x e at))
  rows_there (x ∷ es) (suc k) e at = rows_there es k e at

  -- two places have two rows
  pub apart : (es : List (RowKey × V)) (j k : ℕ) (d e : RowKey × V) → IsOnceEach es → j < k → slice_get es j ≡ Some d → slice_get es k ≡ Some e → d.0 ≢ e.0
  unfolding IsDistinct
  apart [] j k d e once l at there same = none-some d at
  apart (x ∷ es) j zero d e once l at there same = absurd (omega arith)
  apart (x ∷ es) zero (suc k) d e once l at there same =
      false≢true (sym (all_at (λ y. key_eq x.0 y ≡ false) (map (λ y. y.0) es) k e.0 once.0 (rows_there es k e there)) ∙ (key_eq_decides x.0 e.0).1 (ap (λ (y : RowKey × V). y.0) (same_Some x d at) ∙ same))
  apart (x ∷ es) (suc j) (suc k) d e once l at there same = apart es j k d e once.1 (omega arith) at there same

  -- what stands at a place is its row's value
  pub valued : (es : List (RowKey × V)) (k : ℕ) (e : RowKey × V) → IsOnceEach es → slice_get es k ≡ Some e → value_in es e.0 ≡ Some e.1
  unfolding IsDistinct
  valued [] k e once at = absurd (none-some e at)
  valued (x ∷ es) zero e once at = met x es e.0 (ap (λ (y : RowKey × V). y.0) (sym (same_Some x e at))) ∙ ap Some (ap (λ (y : RowKey × V). y.1) (same_Some x e at))
  valued (x ∷ es) (suc k) e once at =
      passed x es e.0 (λ same. apart (x ∷ es) 0 (suc k) x e once (omega arith) refl at (sym same)) ∙ valued es k e once.1 at

  -- a row that comes first comes no more
  pub none_later : (e : RowKey × V) (es : List (RowKey × V)) (row : RowKey) → IsOnceEach (e ∷ es) → row ≡ e.0 → value_in es row ≡ None
  none_later e es row once same =
      elim (value_in es row) as (λ o. value_in es row ≡ o → value_in es row ≡ None) [
        | None ↦ λ none. none
        | Some value ↦ λ some. let there = standing es row value some in absurd (apart (e ∷ es) 0 (suc there.0) e (row, value) once (omega arith) refl there.1 (sym same))
      ] refl

-- written to a book one after another, rows that stand once each in a write set have their one value
first_of : {X : Type 0} → Option X → Option X → Option X
first_of None other = other
first_of (Some x) other = Some x

pub same_tied : (a b : RowKey) → a ≡ b → eq_by_cmp key_cmp a b ≡ true
same_tied a b e = ap (λ (k : RowKey). eq_by_cmp key_cmp k b) e ∙ ap is_eq (tied_itself key_cmp_total b)

pub tied : (o : Ordering) → is_eq o ≡ true → o ≡ Equal
tied Less e = absurd (false≢true e)
tied Equal e = refl
tied Greater e = absurd (false≢true e)

pub other_tied : (a b : RowKey) → a ≢ b → eq_by_cmp key_cmp a b ≡ false
other_tied a b ne = elim (eq_by_cmp key_cmp a b) as (λ t. eq_by_cmp key_cmp a b ≡ t → eq_by_cmp key_cmp a b ≡ false) [ true ↦ λ t. absurd (ne (key_cmp_antisymmetric a b (tied _ t))) | false ↦ λ f. f ] refl

overlaid : (rows : Rows) (ws : List (RowKey × RowVal)) (row : RowKey) → IsOnceEach ws → finite.get (overlay rows ws) row ≡ first_of (value_in ws row) (finite.get rows row)
unfolding IsDistinct first_of
overlaid rows [] row once = refl
overlaid rows (w ∷ ws) row once =
    overlaid (finite.insert rows w.0 w.1) ws row once.1
    ∙ elim (rows_cases row w.0) [
      | inl same ↦
          ap (λ (o : Option RowVal). first_of o (finite.get (finite.insert rows w.0 w.1) row)) (none_later w ws row once same)
          ∙ finite.get-insert key_cmp_total rows w.0 w.1 row
          ∙ ap (λ (b : Bool). cond b (Some w.1) (finite.get rows row)) (same_tied row w.0 same)
          ∙ sym (ap (λ (o : Option RowVal). first_of o (finite.get rows row)) (met w ws row same))
      | inr ne ↦
          ap (first_of (value_in ws row)) (finite.get-insert key_cmp_total rows w.0 w.1 row ∙ ap (λ (b : Bool). cond b (Some w.1) (finite.get rows row)) (other_tied row w.0 ne))
          ∙ sym (ap (λ (o : Option RowVal). first_of o (finite.get rows row)) (passed w ws row ne))
    ]

-- so they are as they are written
pub written_is : (ws : List (RowKey × RowVal)) (row : RowKey) → IsOnceEach ws → written ws row ≡ value_in ws row
unfolding first_of
written_is ws row once =
    overlaid finite.empty ws row once
    ∙ elim (value_in ws row) as (λ o. first_of o (finite.get (finite.empty {X = RowVal} {R = key_cmp}) row) ≡ o) [ None ↦ finite.get-empty key_cmp row | Some value ↦ refl ]

-- numbers, where one is taken out
pub before_removed : (xs : List ℕ) (p k : ℕ) → k < p → slice_get (remove xs p) k ≡ slice_get xs k
before_removed [] zero k l = refl
before_removed [] (suc p) k l = refl
before_removed (x ∷ xs) zero k l = absurd (omega arith)
before_removed (x ∷ xs) (suc p) zero l = refl
before_removed (x ∷ xs) (suc p) (suc k) l = before_removed xs p k (omega arith)

pub was_there : (xs : List ℕ) (p k n : ℕ) → slice_get (remove xs p) k ≡ Some n → (j : ℕ) × (slice_get xs j ≡ Some n)
was_there [] zero k n at = absurd (none-some n at)
was_there [] (suc p) k n at = absurd (none-some n at)
was_there (x ∷ xs) zero k n at = (suc k, at)
was_there (x ∷ xs) (suc p) zero n at = (0, at)
was_there (x ∷ xs) (suc p) (suc k) n at = let there = was_there xs p k n at in (suc there.0, there.1)

pub still_there : (xs : List ℕ) (p k n : ℕ) → k ≢ p → slice_get xs k ≡ Some n → (j : ℕ) × (slice_get (remove xs p) j ≡ Some n)
still_there [] p k n ne at = absurd (none-some n at)
still_there (x ∷ xs) zero zero n ne at = absurd (ne refl)
still_there (x ∷ xs) zero (suc k) n ne at = (k, at)
still_there (x ∷ xs) (suc p) zero n ne at = (0, at)
still_there (x ∷ xs) (suc p) (suc k) n ne at = let there = still_there xs p k n (λ e. ne (ap suc e)) at in (suc there.0, there.1)

-- one more number
pub pushed_before : (xs : List ℕ) (y k n : ℕ) → slice_get xs k ≡ Some n → slice_get (xs ++ y ∷ []) k ≡ Some n
pushed_before [] y k n at = absurd (none-some n at)
pushed_before (x ∷ xs) y zero n at = at
pushed_before (x ∷ xs) y (suc k) n at = pushed_before xs y k n at

pub pushed_last : (xs : List ℕ) (y : ℕ) → slice_get (xs ++ y ∷ []) (length xs) ≡ Some y
pushed_last [] y = refl
pushed_last (x ∷ xs) y = pushed_last xs y

pub pushed_cases : (xs : List ℕ) (y k n : ℕ) → slice_get (xs ++ y ∷ []) k ≡ Some n → (slice_get xs k ≡ Some n) ⊎ (n ≡ y)
pushed_cases [] y zero n at = inr (sym (same_Some y n at))
pushed_cases [] y (suc k) n at = absurd (none-some n at)
pushed_cases (x ∷ xs) y zero n at = inl at
pushed_cases (x ∷ xs) y (suc k) n at = pushed_cases xs y k n at
