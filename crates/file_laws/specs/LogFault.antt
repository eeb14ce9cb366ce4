-- Faults of logs: their numbers, and which of them are of the bytes alone.
use Rattle.std.specs.Prelude.{ℕ, Bool, true, false, Result, Ok, Err}
use Rattle.file_laws.specs.declared.log_fault.LogFault.{LogFault}
use Rattle.file_laws.specs.declared.log_fault.LogFault.TheVariants.{NoLog, Version, OtherBook, InUse, Broken, Failed, OutOfMemory}

-- which fault it is, from 1 to 7
abbrev pub number_of_fault : LogFault → ℕ
number_of_fault NoLog = 1
number_of_fault Version = 2
number_of_fault OtherBook = 3
number_of_fault InUse = 4
number_of_fault (Broken k) = 5
number_of_fault Failed = 6
number_of_fault OutOfMemory = 7

-- a fault that the book and the bytes alone determine
abbrev pub is_of_bytes : LogFault → Bool
is_of_bytes NoLog = true
is_of_bytes Version = true
is_of_bytes OtherBook = true
is_of_bytes (Broken k) = true
is_of_bytes _ = false

-- whether a call on the file has failed after a fault: it has where the fault is `Failed`, and else as before
abbrev pub failed_at : LogFault → Bool → Bool
failed_at Failed failed = true
failed_at _ failed = failed

-- the same of a result
abbrev pub failed_after : {X : Type 0} → Result X LogFault → Bool → Bool
failed_after (Ok x) failed = failed
failed_after (Err e) failed = failed_at e failed
