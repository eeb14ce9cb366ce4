-- Numbers as texts of digits.
use Rattle.std.specs.Prelude.{ℕ, zero, suc, ◌+◌, ◌/◌, ◌%◌, List, [], ◌∷◌, ◌++◌}
use Rattle.std.specs.Str.Parse.{digits_value}

-- the number that a text of decimal digits stands for
abbrev pub number_of : List ℕ → ℕ
number_of text = digits_value 10 text

-- the last digits of a number, so many of them, with leading zeros
unfoldable pub fixed_digits : ℕ → ℕ → List ℕ
fixed_digits zero n = []
fixed_digits (suc width) n = fixed_digits width (n / 10) ++ (48 + n % 10) ∷ []
