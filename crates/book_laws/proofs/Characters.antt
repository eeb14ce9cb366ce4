-- Letters, digits and spaces are ASCII.
use Rattle.std.proofs.Common.{◌≡◌, ℕ, ◌<◌, true, ◌||◌, ◌==◌, List, [], ◌∷◌, All, arith}
use Rattle.std.proofs.lemmas.Bool.Decides.{nat_tests}
use Rattle.std.proofs.lemmas.List.Elements.{All-nil, All-cons}
use Rattle.std.proofs.lemmas.Str.Ascii.{IsAscii-from_all}
use Rattle.std.proofs.lemmas.Str.{IsUtf8-from_ascii}
use Rattle.std.specs.Char.{is_ascii_alphanumeric}
use Rattle.std.specs.Str.{IsUtf8}
use Rattle.std.proofs.lemmas.Bool.{and_parts}
use Rattle.iso8583.specs.Class.{IsAlphanumeric, is_alphanumeric}

below : (c : ℕ) → (is_ascii_alphanumeric c || c == 32) ≡ true → c < 128
below c h = grind (arith, nat_tests, h)

all_below : (text : List ℕ) → IsAlphanumeric text → All (λ b. b < 128) text
all_below [] h = All-nil (λ b. b < 128)
all_below (c ∷ cs) h = let p = and_parts (is_ascii_alphanumeric c || c == 32) (is_alphanumeric cs) h in All-cons (λ b. b < 128) c cs (below c p.0) (all_below cs p.1)

pub alphanumeric_utf8 : (text : List ℕ) → IsAlphanumeric text → IsUtf8 text
alphanumeric_utf8 text h = IsUtf8-from_ascii text (IsAscii-from_all text (all_below text h))
