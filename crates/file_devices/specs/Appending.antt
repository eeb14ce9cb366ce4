-- What stands behind other bytes once a call wrote them, or some of them.
use Rattle.std.specs.Prelude.{◌≡◌, ℕ, List, ◌++◌}

-- these bytes begin those
abbrev pub Begins : List ℕ → List ℕ → Type 0
Begins front bytes = (rest : List ℕ) × (bytes ≡ front ++ rest)

-- a beginning of the text was written behind what was written before
abbrev pub AppendsPart : List ℕ → List ℕ → List ℕ → Type 0
AppendsPart old new text = (front : List ℕ) × (rest : List ℕ) × (new ≡ old ++ front) × (text ≡ front ++ rest)
