-- Letters, digits and spaces are ASCII, so they are UTF-8.
use Rattle.std.proofs.Common.{◌≡◌, ℕ, zero, suc, ◌<◌, true, ◌||◌, ◌==◌, List, [], ◌∷◌, IsTrue, arith}
use Rattle.std.proofs.lemmas.Bool.{and_parts}
use Rattle.std.proofs.lemmas.Bool.Decides.{nat_tests}
use Rattle.std.proofs.lemmas.Str.{IsUtf8-from_ascii}
use Rattle.std.specs.Char.{is_ascii_alphanumeric}
use Rattle.std.specs.Str.{IsAscii, IsUtf8}
use Rattle.iso8583.specs.Class.{is_alphanumeric}

below : (c : ℕ) → (is_ascii_alphanumeric c || c == 32) ≡ true → c < 128
below c h = grind (arith, nat_tests)

ascii : (text : List ℕ) → is_alphanumeric text ≡ true → IsAscii text
ascii [] h i = omega arith
ascii (c ∷ text) h zero = below c (and_parts (is_ascii_alphanumeric c || c == 32) (is_alphanumeric text) h).0
ascii (c ∷ text) h (suc i) = ascii text (and_parts (is_ascii_alphanumeric c || c == 32) (is_alphanumeric text) h).1 i

pub alphanumeric_utf8 : (text : List ℕ) → IsTrue (is_alphanumeric text) → IsUtf8 text
alphanumeric_utf8 text h = IsUtf8-from_ascii text (ascii text h)
