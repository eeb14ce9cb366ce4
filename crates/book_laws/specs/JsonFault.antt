-- Faults: their numbers, and those of a text among all.
use Rattle.std.specs.Prelude.{ℕ}
use Rattle.book_laws.specs.declared.json_fault.JsonFault.{JsonFault}
use Rattle.book_laws.specs.declared.json_fault.JsonFault.TheVariants.{Syntax, Shape, Range, Invalid, OutOfMemory}
use Rattle.book_laws.specs.declared.text_fault.TextFault.{TextFault}
use Rattle.book_laws.specs.declared.text_fault.TextFault.TheVariants as text

-- which fault it is, from 1 to 5
abbrev pub number_of_json_fault : JsonFault → ℕ
number_of_json_fault Syntax = 1
number_of_json_fault (Shape part) = 2
number_of_json_fault Range = 3
number_of_json_fault (Invalid fault) = 4
number_of_json_fault OutOfMemory = 5

-- the fault of a text
abbrev pub fault_of_text : TextFault → JsonFault
fault_of_text text.Syntax = Syntax
fault_of_text (text.Shape part) = Shape part
fault_of_text text.Range = Range
fault_of_text text.OutOfMemory = OutOfMemory
