-- Texts of the classes are ASCII, so they are UTF-8.
use Rattle.std.proofs.Common.{◌≡◌, ℕ, zero, suc, ◌<◌, Bool, true, false, ◌&&◌, nat_le, List, [], ◌∷◌, IsTrue, refl, arith}
use Rattle.std.proofs.lemmas.Bool.{false≢true}
use Rattle.std.proofs.lemmas.Bool.Decides.{nat_tests}
use Rattle.std.proofs.lemmas.Str.{IsUtf8-from_ascii}
use Rattle.std.specs.Char.{is_ascii_digit}
use Rattle.std.specs.List.{list_all}
use Rattle.std.specs.Str.{IsAscii, IsUtf8}
use Rattle.iso8583.specs.Class.{is_digits, is_printable}

split : (a b : Bool) → (a && b) ≡ true → (a ≡ true) × (b ≡ true)
split true b h = (refl, h)
split false b h = absurd (false≢true h)

all_ascii : (test : ℕ → Bool) → ((c : ℕ) → test c ≡ true → c < 128) → (text : List ℕ) → list_all test text ≡ true → IsAscii text
all_ascii test below [] h i = omega arith
all_ascii test below (c ∷ text) h zero = below c (split (test c) (list_all test text) h).0
all_ascii test below (c ∷ text) h (suc i) = all_ascii test below text (split (test c) (list_all test text) h).1 i

printable_below : (c : ℕ) → (nat_le 32 c && nat_le c 126) ≡ true → c < 128
printable_below c h = grind (arith, nat_tests)

digit_printable : (c : ℕ) → is_ascii_digit c ≡ true → (nat_le 32 c && nat_le c 126) ≡ true
digit_printable c h = grind (arith, nat_tests)

-- digits are printable characters
pub digits_printable : (text : List ℕ) → IsTrue (is_digits text) → IsTrue (is_printable text)
digits_printable [] h = h
digits_printable (c ∷ text) h =
    let both = split (is_ascii_digit c) (is_digits text) h in
    let first : (nat_le 32 c && nat_le c 126) ≡ true = digit_printable c both.0 in
    rw first (digits_printable text both.1)

pub printable_utf8 : (text : List ℕ) → IsTrue (is_printable text) → IsUtf8 text
printable_utf8 text h = IsUtf8-from_ascii text (all_ascii _ printable_below text h)

pub digits_utf8 : (text : List ℕ) → IsTrue (is_digits text) → IsUtf8 text
digits_utf8 text h = printable_utf8 text (digits_printable text h)
