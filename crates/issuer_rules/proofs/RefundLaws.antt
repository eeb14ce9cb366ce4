-- When what paid would have more than it may.
use Rattle.std.proofs.Common.{◌≡◌, ℕ, ◌+◌, ◌≤◌, true, false, nat_lt, arith}
use Rattle.std.proofs.lemmas.Bool.Decides.{nat_tests}
use Rattle.issuer_words.specs.Words.{Funds, KeptOriginal, Reversal, balance_of, given_back, greatest_balance, is_overfull}

over : (n : ℕ) → ¬ (n ≤ greatest_balance) → nat_lt greatest_balance n ≡ true
over n h = grind (arith, nat_tests)

within : (n : ℕ) → n ≤ greatest_balance → nat_lt greatest_balance n ≡ false
within n h = grind (arith, nat_tests)

module _ (r : Reversal) (k : KeptOriginal) (paid : Funds) (balance given : ℕ) (b : balance ≡ balance_of paid) (g : given ≡ given_back r k) where
  sum_is : balance + given ≡ balance_of paid + given_back r k
  sum_is = λ i. b i + g i

  pub overfull : ¬ (balance + given ≤ greatest_balance) → is_overfull r k paid ≡ true
  overfull h = over _ (λ fits. h (rw sum_is fits))

  pub not_overfull : balance + given ≤ greatest_balance → is_overfull r k paid ≡ false
  not_overfull h = within _ (rw (← sum_is) h)
