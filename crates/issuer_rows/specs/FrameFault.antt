-- Faults of bodies that are no messages.
use Rattle.std.specs.Prelude.{◌≢◌, ℕ, List, ◌∷◌, ◌++◌}
use Rattle.iso8583.specs.CodecFault.{number_of_fault, element_of_fault}
use Rattle.iso8583.specs.Number.{fixed_digits}
use Rattle.iso8583.specs.declared.codec_fault.CodecFault.{CodecFault}
use Rattle.iso8583.specs.declared.codec_fault.CodecFault.TheVariants.{OutOfMemory}

-- any but out of memory
abbrev pub IsOfFrame : CodecFault → Type 0
IsOfFrame fault = fault ≢ OutOfMemory

-- How a fault is answered: `F`, two digits of the fault's number, three of the element's.
abbrev pub fault_body : CodecFault → List ℕ
fault_body fault = 70 ∷ (fixed_digits 2 (number_of_fault fault) ++ fixed_digits 3 (element_of_fault fault))
