-- A text in one line.
use Rattle.std.specs.Prelude.{ℕ, ◌+◌, ◌-◌, ◌/◌, ◌%◌, ◌||◌, ◌==◌, nat_lt, if◌then◌else◌, List, [], ◌∷◌}
use Rattle.std.specs.List.{flat_map}

-- the hexadecimal digit of a number up to 15
abbrev pub hex_digit : ℕ → ℕ
hex_digit number = if nat_lt number 10 then 48 + number else 97 + (number - 10)

-- a control character is shown as a backslash, an x and two hexadecimal digits
abbrev pub shown_byte : ℕ → List ℕ
shown_byte byte =
    if nat_lt byte 32 || byte == 127 then 92 ∷ 120 ∷ hex_digit (byte / 16) ∷ hex_digit (byte % 16) ∷ [] else byte ∷ []

-- the text with its control characters shown so
abbrev pub shown : List ℕ → List ℕ
shown text = flat_map shown_byte text
