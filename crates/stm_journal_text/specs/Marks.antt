-- Texts without a mark that ends a part of them.
use Rattle.std.specs.Prelude.{ℕ, List, ◌≢◌}
use Rattle.std.specs.List.{AllByRecursion}

-- the text has no such byte
abbrev pub Lacks : ℕ → List ℕ → Type 0
Lacks mark text = AllByRecursion (λ c. c ≢ mark) text
