-- What calls of sources and sinks do.
use Rattle.std.specs.Prelude.{ℕ, zero, suc, List, [], Bool, true, Option, Some, None, Result, Ok, Err}
use Rattle.file_devices.specs.declared.broken.Broken.{Broken}

-- the bytes, where they are known
abbrev pub known_bytes : Option (List ℕ) → List ℕ
known_bytes (Some bytes) = bytes
known_bytes None = []

-- whether a call has failed after one more that reads
abbrev pub failed_after_take : Result ℕ Broken → Bool → Bool
failed_after_take (Ok n) failed = failed
failed_after_take (Err broken) failed = true

-- the same of one that writes: it fails where it writes no byte, too
abbrev pub failed_after_put : Result ℕ Broken → Bool → Bool
failed_after_put (Ok zero) failed = true
failed_after_put (Ok (suc n)) failed = failed
failed_after_put (Err broken) failed = true
