-- The check of a card number (ISO/IEC 7812-1, annex B).
use Rattle.std.specs.Prelude.{ℕ, ◌+◌, ◌-◌, ◌*◌, ◌%◌, Bool, ◌==◌, nat_lt, if◌then◌else◌, List, [], ◌∷◌, length}

-- a digit doubled, less 9 where that passes 9
abbrev pub doubled : ℕ → ℕ
doubled d = if nat_lt 9 (2 * d) then 2 * d - 9 else 2 * d

-- What a digit adds to the sum: from the right, every second digit is doubled, so one is that has an
-- odd number of digits to its right.
abbrev pub luhn_value : ℕ → ℕ → ℕ
luhn_value right d = if right % 2 == 1 then doubled d else d

-- the sum over all digits
abbrev pub luhn_sum : List ℕ → ℕ
luhn_sum [] = 0
luhn_sum (c ∷ cs) = luhn_value (length cs) (c - 48) + luhn_sum cs

-- the sum ends in 0
abbrev pub passes_luhn : List ℕ → Bool
passes_luhn text = luhn_sum text % 10 == 0
