-- What may fail of files.
use Rattle.std.specs.Prelude.{ℕ, List}

-- By the name of a file: a call on it may fail where it is read, or where it is written; with memory enough it may be refused to be made or
-- put in place; and another run may have claimed it.
pub record Failing : Type 1 where
  pub reading : List ℕ → Type 0
  pub writing : List ℕ → Type 0
  pub refused : List ℕ → Type 0
  pub in_use : List ℕ → Type 0

-- of every file each may be
abbrev pub anything : Failing
anything = record { reading = λ name. Unit {0}; writing = λ name. Unit {0}; refused = λ name. Unit {0}; in_use = λ name. Unit {0} }

-- a call that writes may fail, and nothing else
abbrev pub writing_alone : Failing
writing_alone = record { reading = λ name. ⊥; writing = λ name. Unit {0}; refused = λ name. ⊥; in_use = λ name. ⊥ }
