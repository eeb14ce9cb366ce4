-- Pairs of names that have to be of two files.
use Rattle.std.specs.Prelude.{◌≡◌, ◌≢◌, ◌⊎◌, ⊤, ℕ, List, [], ◌∷◌}

-- of each pair the names differ
abbrev pub AreApart : List (List ℕ × List ℕ) → Type 0
AreApart [] = ⊤
AreApart (pair ∷ pairs) = (pair.0 ≢ pair.1) × AreApart pairs

-- of some pair both names are one
abbrev pub HasOneFile : List (List ℕ × List ℕ) → Type 0
HasOneFile [] = ⊥
HasOneFile (pair ∷ pairs) = (pair.0 ≡ pair.1) ⊎ HasOneFile pairs
