-- Files that are claimed.
use Rattle.std.specs.Prelude.{ℕ, List, [], ◌∷◌}

-- a file that is claimed: to write it alone, or to read it while nobody writes it
pub data Claimed : Type 0 where
  alone : List ℕ → Claimed
  to_read : List ℕ → Claimed

-- the claim is one on this file
abbrev pub IsOn : {Claim : Type 0} → (Claim → List ℕ → Type 0) → (Claim → List ℕ → Type 0) → Claimed → Claim → Type 0
IsOn is_alone_on is_to_read (alone name) claim = is_alone_on claim name
IsOn is_alone_on is_to_read (to_read name) claim = is_to_read claim name

-- each file has its claim
abbrev pub AreOn : {Claim : Type 0} → (Claim → List ℕ → Type 0) → (Claim → List ℕ → Type 0) → List Claimed → List Claim → Type 0
AreOn is_alone_on is_to_read [] [] = Unit {0}
AreOn is_alone_on is_to_read (file ∷ files) (claim ∷ claims) = IsOn is_alone_on is_to_read file claim × AreOn is_alone_on is_to_read files claims
AreOn is_alone_on is_to_read _ _ = ⊥
