-- Heads of entries.
use Rattle.std.proofs.Common.{◌≡◌, ℕ, ◌<◌, ◌^◌, List, ◌++◌, length, take, drop, refl, sym, ap, ◌∙◌, arith}
use Rattle.std.proofs.lemmas.List.{take_at, drop_at, take-append-drop}
use Rattle.byteorder.specs.Endian.{big_number}
use Rattle.file_laws.specs.Tails.{AreZeros}
use Rattle.file_laws.specs.Texts.{entry_head}

pub length-head : (n : ℕ) → length (entry_head n) ≡ 8
unfolding entry_head
length-head n = refl

-- the number that a head says
pub number_in_head : (n : ℕ) (rest : List ℕ) → n < 2 ^ 32 → big_number 4 (entry_head n ++ rest) ≡ n
unfolding entry_head
number_in_head n rest lt = omega (arith, lt)

pub numbers_apart : (m n : ℕ) (xs ys : List ℕ) → m < 2 ^ 32 → n < 2 ^ 32 → entry_head m ++ xs ≡ entry_head n ++ ys → m ≡ n
numbers_apart m n xs ys lt lt' e = sym (number_in_head m xs lt) ∙ ap (big_number 4) e ∙ number_in_head n ys lt'

pub rests_apart : (m n : ℕ) (xs ys : List ℕ) → entry_head m ++ xs ≡ entry_head n ++ ys → xs ≡ ys
rests_apart m n xs ys e = sym (drop_at (entry_head m) xs 8 (length-head m)) ∙ ap (drop 8) e ∙ drop_at (entry_head n) ys 8 (length-head n)

-- a head isn't zeros
pub no_zeros : (n : ℕ) (rest : List ℕ) → n < 2 ^ 32 → ¬ AreZeros (entry_head n ++ rest)
unfolding entry_head
no_zeros n rest lt zeros = absurd (omega (arith, lt, zeros.0, zeros.1.0, zeros.1.1.0, zeros.1.1.1.0, zeros.1.1.1.1.0))

pub front_of_head : (n : ℕ) (rest : List ℕ) → take 8 (entry_head n ++ rest) ≡ entry_head n
front_of_head n rest = take_at (entry_head n) rest 8 (length-head n)

-- a head stands at the beginning
pub behind_head : (bytes : List ℕ) (n : ℕ) → take 8 bytes ≡ entry_head n → bytes ≡ entry_head n ++ drop 8 bytes
behind_head bytes n e = sym (take-append-drop 8 bytes) ∙ ap (λ (x : List ℕ). x ++ drop 8 bytes) e
