-- The texts of elements from what is written of them.
use Rattle.std.specs.Prelude.{ℕ, ◌-◌, List, [], ◌++◌, length, take, drop, nat_lt, ◌==◌, if◌then◌else◌}
use Rattle.iso8583.specs.Number.{fixed_digits}
use Rattle.iso_laws.specs.Elements.{twelve_zeros}
use Rattle.iso_laws.specs.declared.element.Element.{Element}
use Rattle.iso_laws.specs.declared.element.Element.TheVariants.{Amount, Stan, OriginalAmount, Original}

-- zeros in front, up to so many characters, at most twelve; nothing stays nothing
abbrev pub filled : ℕ → List ℕ → List ℕ
filled size value = if length value == 0 then [] else take (size - length value) twelve_zeros ++ value

-- type, trace number, and date and time of an original, 22 digits; then the length of what follows, its acquirer, in two digits
abbrev pub with_length : List ℕ → List ℕ
with_length value =
    if nat_lt (length value) 22 then value else take 22 value ++ fixed_digits 2 (length (drop 22 value)) ++ drop 22 value

-- The text of an element from the value that a word gives it: amounts and trace numbers are filled with zeros, element 30 with twelve
-- more behind them, and element 56 with the length of the original's acquirer; others are as they are written.
abbrev pub text_of : Element → List ℕ → List ℕ
text_of Amount value = filled 12 value
text_of Stan value = filled 6 value
text_of OriginalAmount value = filled 12 value ++ twelve_zeros
text_of Original value = with_length value
text_of e value = value
