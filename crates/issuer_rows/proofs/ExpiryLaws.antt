-- The order of texts of digits.
use Rattle.std.proofs.Common.{◌≡◌, ℕ, ◌+◌, ◌*◌, ◌<◌, true, false, nat_lt, is_lt, List, [], ◌∷◌, length, Ordering, Less, Equal, Greater, inl, inr, refl, sym, ap, subst, ◌∙◌, arith}
use Rattle.std.proofs.lemmas.Bool.{cases_order, and_parts}
use Rattle.std.proofs.lemmas.Bool.Decides.{nat_tests}
use Rattle.std.specs.Char.{is_ascii_digit, digit_value}
use Rattle.std.specs.Cmp.{nat_cmp_is}
use Rattle.std.specs.Cmp.Lexicographic.{slice_cmp}
use Rattle.std.specs.Ordering.{nat_cmp, ordering_then}
use Rattle.std.specs.Str.Parse.{digits_value_after}
use Rattle.iso8583.proofs.NumberLaws.{char_of_value}
use Rattle.iso8583.specs.Class.{is_digits}
use Rattle.iso8583.specs.Number.{number_of}

-- behind a lower number, digits make a lower one
below : (m n : ℕ) (xs ys : List ℕ) → length xs ≡ length ys → is_digits xs ≡ true → m < n → digits_value_after 10 m xs < digits_value_after 10 n ys
below m n [] [] e d h = h
below m n [] (y ∷ ys) e d h = absurd (omega arith)
below m n (x ∷ xs) [] e d h = absurd (omega arith)
below m n (x ∷ xs) (y ∷ ys) e d h =
    let digit = and_parts (is_ascii_digit x) (is_digits xs) d in
    let small = (char_of_value x digit.0).1 in
    below (m * 10 + digit_value x) (n * 10 + digit_value y) xs ys (omega arith) digit.1 (omega (arith, small, h))

order_behind : (n : ℕ) (xs ys : List ℕ) → length xs ≡ length ys → is_digits xs ≡ true → is_digits ys ≡ true → nat_cmp (digits_value_after 10 n xs) (digits_value_after 10 n ys) ≡ slice_cmp nat_cmp xs ys
order_behind n [] [] e c d = sym (nat_cmp_is n n Equal refl)
order_behind n [] (y ∷ ys) e c d = absurd (omega arith)
order_behind n (x ∷ xs) [] e c d = absurd (omega arith)
order_behind n (x ∷ xs) (y ∷ ys) e c d =
    let same : length xs ≡ length ys = omega arith in
    let mine = and_parts (is_ascii_digit x) (is_digits xs) c in
    let theirs = and_parts (is_ascii_digit y) (is_digits ys) d in
    let value_x = char_of_value x mine.0 in
    let value_y = char_of_value y theirs.0 in
    let first : (o : Ordering) → o ≡ nat_cmp x y → ordering_then o (slice_cmp nat_cmp xs ys) ≡ slice_cmp nat_cmp (x ∷ xs) (y ∷ ys) =
    λ o is. ap (λ r. ordering_then r (slice_cmp nat_cmp xs ys)) is in
    elim (cases_order x y) [
      | inl alike ↦
          subst (λ z. nat_cmp (digits_value_after 10 (n * 10 + digit_value x) xs) (digits_value_after 10 (n * 10 + digit_value z) ys) ≡ slice_cmp nat_cmp xs ys) alike (order_behind (n * 10 + digit_value x) xs ys same mine.1 theirs.1)
          ∙ first Equal (nat_cmp_is x y Equal alike)
      | inr apart ↦ elim apart [
        | inl less ↦ sym (nat_cmp_is _ _ Less (below (n * 10 + digit_value x) (n * 10 + digit_value y) xs ys same mine.1 (omega (arith, value_x.0, value_y.0, less)))) ∙ first Less (nat_cmp_is x y Less less)
        | inr more ↦ sym (nat_cmp_is _ _ Greater (below (n * 10 + digit_value y) (n * 10 + digit_value x) ys xs (sym same) theirs.1 (omega (arith, value_x.0, value_y.0, more)))) ∙ first Greater (nat_cmp_is x y Greater more)
      ]
    ]

lower : (m n : ℕ) → is_lt (nat_cmp m n) ≡ nat_lt m n
lower m n =
    elim (cases_order m n) [
      | inl alike ↦ let no : nat_lt m n ≡ false = grind (arith, nat_tests) in ap is_lt (sym (nat_cmp_is m n Equal alike)) ∙ sym no
      | inr apart ↦ elim apart [
        | inl less ↦ let yes : nat_lt m n ≡ true = grind (arith, nat_tests) in ap is_lt (sym (nat_cmp_is m n Less less)) ∙ sym yes
        | inr more ↦ let no : nat_lt m n ≡ false = grind (arith, nat_tests) in ap is_lt (sym (nat_cmp_is m n Greater more)) ∙ sym no
      ]
    ]

-- of texts of as many digits the one that comes first stands for the lower number
pub less_by_digits : (xs ys : List ℕ) → length xs ≡ length ys → is_digits xs ≡ true → is_digits ys ≡ true → is_lt (slice_cmp nat_cmp xs ys) ≡ nat_lt (number_of xs) (number_of ys)
less_by_digits xs ys e c d = ap is_lt (sym (order_behind 0 xs ys e c d)) ∙ lower (number_of xs) (number_of ys)
