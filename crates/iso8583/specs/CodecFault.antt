-- Faults of the codec as two numbers: which fault, and of which element.
use Rattle.std.specs.Prelude.{ℕ}
use Rattle.iso8583.specs.declared.codec_fault.CodecFault.{CodecFault}
use Rattle.iso8583.specs.declared.codec_fault.CodecFault.TheVariants.{Short, BadMti, SecondaryBitmap, Unexpected, Missing, BadLength, BadCharacter, Trailing, BadValue, OutOfMemory}

-- which fault it is, from 1 to 10
abbrev pub number_of_fault : CodecFault → ℕ
number_of_fault (Short n) = 1
number_of_fault BadMti = 2
number_of_fault SecondaryBitmap = 3
number_of_fault (Unexpected n) = 4
number_of_fault (Missing n) = 5
number_of_fault (BadLength n) = 6
number_of_fault (BadCharacter n) = 7
number_of_fault Trailing = 8
number_of_fault (BadValue n) = 9
number_of_fault OutOfMemory = 10

-- the element that it is of, 0 where it is of none
abbrev pub element_of_fault : CodecFault → ℕ
element_of_fault (Short n) = n
element_of_fault BadMti = 0
element_of_fault SecondaryBitmap = 0
element_of_fault (Unexpected n) = n
element_of_fault (Missing n) = n
element_of_fault (BadLength n) = n
element_of_fault (BadCharacter n) = n
element_of_fault Trailing = 0
element_of_fault (BadValue n) = n
element_of_fault OutOfMemory = 0
