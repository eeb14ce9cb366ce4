-- A buffer of text; for private clauses.
use Rattle.std.specs.Prelude.{ℕ, List}

-- the text that is written, and how many bytes behind it can be stored
pub record Prepared : Type 0 where
  pub text : List ℕ
  pub ready : ℕ
