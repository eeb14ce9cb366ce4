-- A search by halves compares at most as many indices as the number of links has binary digits.
use Rattle.std.proofs.Common.{◌≡◌, ℕ, zero, suc, ◌+◌, ◌-◌, ◌*◌, ◌/◌, ◌<◌, ◌≤◌, ◌^◌, refl, ap, ◌∙◌, arith}
use Rattle.std.proofs.lemmas.Nat.{pow-add}

-- what is below a power of two and not nothing leaves, halved, what is below the next lower power
pub halved : (size less n count : ℕ) → 0 < size → less ≤ size / 2 → count ≤ n → size < 2 ^ (n - count) → (count + 1 ≤ n) × (less < 2 ^ (n - (count + 1)))
halved size less n count some half within below = by (n - count) refl
  where
    by : (m : ℕ) → n - count ≡ m → (count + 1 ≤ n) × (less < 2 ^ (n - (count + 1)))
    by zero e = let one : 2 ^ (n - count) ≡ 1 = ap (λ (k : ℕ). 2 ^ k) e in absurd (omega arith)
    by (suc m) e =
        let power : 2 ^ (n - count) ≡ 2 ^ m * 2 ^ 1 = ap (λ (k : ℕ). 2 ^ k) (let s : n - count ≡ m + 1 = omega arith in s) ∙ pow-add 2 m 1 in
        let next : 2 ^ (n - (count + 1)) ≡ 2 ^ m = ap (λ (k : ℕ). 2 ^ k) (let s : n - (count + 1) ≡ m = omega arith in s) in
        (omega arith, omega arith)
