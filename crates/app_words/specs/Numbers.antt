-- Numbers that words say.
use Rattle.std.specs.Prelude.{ℕ, ◌<◌, ◌^◌, List}
use Rattle.std.specs.Str.Parse.{IsNumeral, digits_value, without_leading_plus}

-- the number that a word says, before which a plus may stand
abbrev pub number_said : List ℕ → ℕ
number_said word = digits_value 10 (without_leading_plus word)

-- a word is a number in decimal digits, below 2^32
abbrev pub IsNumber : List ℕ → Type 0
IsNumber word = IsNumeral 10 (without_leading_plus word) × (number_said word < 2 ^ 32)
