-- Bodies that are read, with those that were read before them.
use Rattle.std.proofs.Common.{◌≡◌, ℕ, List, [], ◌∷◌, ◌++◌, Result, Ok, Err, refl}
use Rattle.file_laws.specs.Reading.{◌>>=◌}
use Rattle.file_laws.specs.declared.batch_fault.BatchFault.{BatchFault}

abbrev pub Bodies : Type 0
Bodies = List (List ℕ)

-- what a read comes to: the bodies and the bytes behind them
abbrev pub Read : Type 0
Read = Result (Bodies × List ℕ) BatchFault

-- the bodies that were read before, and those that are read
abbrev pub with_front : Bodies → Read → Read
with_front front read = read >>= λ x. Ok (front ++ x.0, x.1)

pub no_front : (read : Read) → with_front [] read ≡ read
no_front (Ok x) = refl
no_front (Err e) = refl

-- one more body in front of those that were read
abbrev pub before_them : List ℕ → Bodies × List ℕ → Read
before_them body x = Ok (body ∷ x.0, x.1)
