-- What is still to be read.
use Rattle.std.specs.Prelude.{ℕ, List, ◌++◌, drop}
use Rattle.log_file.specs.declared.input.Input.{Input}

-- the bytes that were taken and not read yet
abbrev pub held : {R : Type 0} → Input R → List ℕ
held input = drop input.start input.taken.items

-- these, and what is left in the source
abbrev pub ahead : {R : Type 0} → (R → List ℕ) → Input R → List ℕ
ahead remaining input = held input ++ remaining input.source
