-- Faults of files: their numbers, and which of them are of the bytes alone.
use Rattle.std.specs.Prelude.{ℕ, Bool, true, false, Result, Ok, Err}
use Rattle.file_laws.specs.declared.batch_fault.BatchFault.{BatchFault}
use Rattle.file_laws.specs.declared.batch_fault.BatchFault.TheVariants.{Magic, Version, Count, Length, Ended, Trailing, Device, OutOfMemory, Body, Blocks}

-- which fault it is, from 1 to 10
abbrev pub number_of_fault : BatchFault → ℕ
number_of_fault Magic = 1
number_of_fault Version = 2
number_of_fault Count = 3
number_of_fault Length = 4
number_of_fault Ended = 5
number_of_fault Trailing = 6
number_of_fault Device = 7
number_of_fault OutOfMemory = 8
number_of_fault (Body i) = 9
number_of_fault Blocks = 10

-- a fault that the bytes alone determine
abbrev pub is_of_bytes : BatchFault → Bool
is_of_bytes Device = false
is_of_bytes OutOfMemory = false
is_of_bytes _ = true

-- whether a call of a device has failed after a fault: it has where the fault is the device's, and else as before
abbrev pub failed_at : BatchFault → Bool → Bool
failed_at Device failed = true
failed_at _ failed = failed

-- the same of a result
abbrev pub failed_after : {X : Type 0} → Result X BatchFault → Bool → Bool
failed_after (Ok x) failed = failed
failed_after (Err e) failed = failed_at e failed
