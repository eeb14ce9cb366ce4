-- What calls on a file that only grows do.
use Rattle.std.specs.Prelude.{◌≡◌, ℕ, Bool, true, List, ◌++◌, Result, Ok, Err}
pub use Rattle.file_devices.specs.Appending.{Begins}
use Rattle.file_devices.specs.declared.broken.Broken.{Broken}

-- whether a call has failed after one more
abbrev pub failed_after_call : Result (Unit {0}) Broken → Bool → Bool
failed_after_call (Ok x) failed = failed
failed_after_call (Err broken) failed = true

-- behind the old bytes stands a beginning of these
abbrev pub AddsPart : List ℕ → List ℕ → List ℕ → Type 0
AddsPart old new bytes = (front : List ℕ) × Begins front bytes × (new ≡ old ++ front)
