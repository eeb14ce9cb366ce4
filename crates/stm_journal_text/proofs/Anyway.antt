-- What holds anyway holds of what is answered.
use Rattle.std.proofs.Common.{Option, Some, None}
use Rattle.std.specs.Prelude.{Result, Ok, Err, IfErr, IfNone}

-- of nothing found
pub if_none : {T : Type 0} (found : Option T) (P : Type 0) → P → IfNone found P
if_none None P h = h
if_none (Some x) P h = tt

-- of a fault
pub if_err : {T E : Type 0} (answer : Result T E) (P : E → Type 0) → ((e : E) → P e) → IfErr answer P
if_err (Ok x) P h = tt
if_err (Err e) P h = h e
