-- Classes of characters in the texts of elements.
use Rattle.std.specs.Prelude.{ℕ, Bool, List, ◌&&◌, ◌||◌, ◌==◌, nat_le, IsTrue}
use Rattle.std.specs.List.{list_all}
use Rattle.std.specs.Char.{is_ascii_digit, is_ascii_alphanumeric}

-- digits alone
abbrev pub is_digits : List ℕ → Bool
is_digits text = list_all is_ascii_digit text

-- the text has digits alone
abbrev pub IsDigits : List ℕ → Type 0
IsDigits text = IsTrue (is_digits text)

-- letters, digits and spaces alone (anp)
abbrev pub is_alphanumeric : List ℕ → Bool
is_alphanumeric text = list_all (λ c. is_ascii_alphanumeric c || c == 32) text

-- the text has letters, digits and spaces alone
abbrev pub IsAlphanumeric : List ℕ → Type 0
IsAlphanumeric text = IsTrue (is_alphanumeric text)

-- printable characters alone, 0x20 to 0x7E (ans)
abbrev pub is_printable : List ℕ → Bool
is_printable text = list_all (λ c. nat_le 32 c && nat_le c 126) text

-- the text has printable characters alone
abbrev pub IsPrintable : List ℕ → Type 0
IsPrintable text = IsTrue (is_printable text)
