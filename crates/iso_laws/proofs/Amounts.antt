-- A number that was read is written again as it was.
use Rattle.std.proofs.Common.{◌≡◌, ℕ, ◌^◌, ◌<◌, true, List, [], ◌∷◌, ◌++◌, length, take, drop, refl, arith}
use Rattle.std.proofs.lemmas.Bool.{and_parts}
use Rattle.std.specs.Char.{is_ascii_digit, digit_value}
use Rattle.std.specs.Str.Parse.{AllDigits}
use Rattle.std.proofs.lemmas.Bool.Decides.{nat_tests}
use Rattle.std.proofs.lemmas.Int.Digits.{digits_value-lt}
use Rattle.iso8583.specs.Class.{is_digits, IsDigits}
use Rattle.iso8583.specs.Number.{number_of, fixed_digits}
use Rattle.iso8583.proofs.NumberLaws.{fixed_digits-number_of, digit_bounds, is_digits-take}
use Rattle.std.proofs.lemmas.List.{take-append-drop, length-take-le}
use Rattle.std.proofs.lemmas.Slice.Eq.{bytes_eq-Decides}
use Rattle.iso_laws.specs.declared.element.Element.TheVariants as element
use Rattle.iso_laws.specs.Elements.{IsText, is_original_amount, twelve_zeros}

digit_below : (c : ℕ) → is_ascii_digit c ≡ true → digit_value c < 10
digit_below c h = let range = digit_bounds c h in grind (arith, nat_tests)

all_digits : (text : List ℕ) → IsDigits text → AllDigits 10 text
all_digits [] h = tt
all_digits (c ∷ cs) h =
    let parts = and_parts (is_ascii_digit c) (is_digits cs) h in
    (digit_below c parts.0, all_digits cs parts.1)

pub amount_bound : (text : List ℕ) → length text ≡ 12 → IsDigits text → number_of text < 10 ^ 12
amount_bound text len digits = rw len at (digits_value-lt 10 text (all_digits text digits))

pub action_bound : (text : List ℕ) → length text ≡ 3 → IsDigits text → number_of text < 10 ^ 3
action_bound text len digits = rw len at (digits_value-lt 10 text (all_digits text digits))

-- element 30 is an amount of twelve digits and zeros
pub original_amount : (text : List ℕ) → IsText element.OriginalAmount text → IsText element.Amount (take 12 text)
original_amount text h =
    (length-take-le 12 text (omega (arith, h.0)), is_digits-take 12 text h.1, refl)

pub original_again : (text : List ℕ) → IsText element.OriginalAmount text → fixed_digits 12 (number_of (take 12 text)) ++ twelve_zeros ≡ text
unfolding is_original_amount
original_again text h =
    let half = original_amount text h in
    let zeros : drop 12 text ≡ twelve_zeros = (bytes_eq-Decides (drop 12 text) twelve_zeros).0 h.2 in
    rw (fixed_digits-number_of 12 (take 12 text) half.0 half.1, ← zeros) (take-append-drop 12 text)
