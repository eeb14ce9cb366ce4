-- The least number that passes a test: which one it is, and when there is none.
use Rattle.std.proofs.Common.{◌≡◌, ℕ, zero, suc, ◌+◌, ◌<◌, ◌≤◌, Bool, true, false, cond, Some, None, refl, ap, arith, inl, inr}
use Rattle.std.proofs.lemmas.Bool.{cases_lt}
use Rattle.iso_laws.specs.Reading.{least}

-- it passes, and none below it does
pub record IsLeast (test : ℕ → Bool) (from count n : ℕ) : Type 0 where
  pub low : from ≤ n
  pub high : n < from + count
  pub passes : test n ≡ true
  pub below : (m : ℕ) → from ≤ m → m < n → test m ≡ false

pub least_is : (test : ℕ → Bool) (from count n : ℕ) → IsLeast test from count n → least test from count ≡ Some n
unfolding least
least_is test from zero n h = absurd (omega (arith, h.low, h.high))
least_is test from (suc count) n h =
    elim (test from) as (λ b. test from ≡ b → cond b (Some from) (least test (from + 1) count) ≡ Some n) [
      | true ↦ λ e. elim (cases_lt from n) [
        | inl lt ↦ (let fails : test from ≡ false = h.below from (omega arith) lt in absurd cc)
        | inr le ↦ (let same : from ≡ n = omega (arith, h.low) in ap (λ (k : ℕ). Some k) same)
      ]
      | false ↦ λ e. elim (cases_lt from n) [
        | inl lt ↦ least_is test (from + 1) count n (record { low = omega arith; high = omega (arith, h.high); passes = h.passes; below = λ m low high. h.below m (omega arith) high })
        | inr le ↦ (let same : from ≡ n = omega (arith, h.low) in let passes : test n ≡ true = h.passes in absurd cc)
      ]
    ] refl

pub least_where : (test : ℕ → Bool) (from count n : ℕ) → least test from count ≡ Some n → IsLeast test from count n
unfolding least
least_where test from zero n h = absurd cc
least_where test from (suc count) n h =
    elim (test from) as (λ b. test from ≡ b → cond b (Some from) (least test (from + 1) count) ≡ Some n → IsLeast test from (suc count) n) [
      | true ↦ λ e k.
          (let same : from ≡ n = cc in
          record { low = omega arith; high = omega arith; passes = rw same at e; below = λ m low high. absurd (omega arith) })
      | false ↦ λ e k.
          (let rest = least_where test (from + 1) count n k in
          record {
            low = omega (arith, rest.low);
            high = omega (arith, rest.high);
            passes = rest.passes;
            below = λ m low high. elim (cases_lt from m) [
              | inl lt ↦ rest.below m (omega arith) high
              | inr le ↦ (let same : m ≡ from = omega arith in rw same e)
            ];
          })
    ] refl h

pub least_none : (test : ℕ → Bool) (from count : ℕ) → ((n : ℕ) → from ≤ n → n < from + count → test n ≡ false) → least test from count ≡ None
unfolding least
least_none test from zero h = refl
least_none test from (suc count) h =
    let first : test from ≡ false = h from (omega arith) (omega arith) in
    rw first (least_none test (from + 1) count (λ n low high. h n (omega arith) (omega arith)))

-- no number that passes
pub all_fail : (test : ℕ → Bool) (from count n : ℕ) → least test from count ≡ None → from ≤ n → n < from + count → test n ≡ false
unfolding least
all_fail test from zero n h low high = absurd (omega arith)
all_fail test from (suc count) n h low high =
    elim (test from) as (λ b. test from ≡ b → cond b (Some from) (least test (from + 1) count) ≡ None → test n ≡ false) [
      | true ↦ λ _ k. absurd cc
      | false ↦ λ e k. elim (cases_lt from n) [
        | inl lt ↦ all_fail test (from + 1) count n k (omega arith) (omega arith)
        | inr le ↦ (let same : n ≡ from = omega arith in rw same e)
      ]
    ] refl h

-- two tests that agree on these numbers
pub least_same : (f g : ℕ → Bool) (from count : ℕ) → ((n : ℕ) → from ≤ n → n < from + count → f n ≡ g n) → least f from count ≡ least g from count
unfolding least
least_same f g from zero h = refl
least_same f g from (suc count) h =
    let here : f from ≡ g from = h from (omega arith) (omega arith) in
    rw (here, least_same f g (from + 1) count (λ n low high. h n (omega arith) (omega arith))) refl
