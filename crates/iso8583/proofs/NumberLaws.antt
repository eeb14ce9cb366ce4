-- Laws of numbers as texts of digits.
use Rattle.std.proofs.Common.{append_assoc, ◌≡◌, ℕ, zero, suc, ◌+◌, ◌-◌, ◌*◌, ◌/◌, ◌%◌, ◌^◌, ◌<◌, ◌≤◌, Bool, true, false, List, [], ◌∷◌, ◌++◌, length, take, drop, set, get_or, sym, refl, ◌∙◌, arith, rules, add-one, lit<}
use Rattle.std.proofs.lemmas.List.{length-append, drop-set, take-append-drop, length-take-le, take_all}
use Rattle.std.proofs.lemmas.List.Folds.{list_all-append, list_all_at}
use Rattle.std.proofs.lemmas.Bool.Decides.{nat_tests}
use Rattle.std.proofs.lemmas.Str.{digit_value_digit}
use Rattle.std.proofs.lemmas.Nat.{div-mul-add}
use Rattle.std.proofs.Math.Nat.{pow-suc, pow-le-pow_right}
use Rattle.std.proofs.Math.Seq.{take-suc}
use Rattle.std.specs.Cmp.Derive.{both_true}
use Rattle.std.proofs.lemmas.Int.Digits.{digits_value_push, digits_value_more}
use Rattle.std.specs.Prelude.{◌&&◌, ◌||◌, ◌==◌}
use Rattle.std.specs.Char.{is_ascii_digit, is_ascii_alphanumeric, digit_value}
use Rattle.iso8583.specs.Class.{is_digits, is_alphanumeric}
use Rattle.iso8583.specs.Number.{number_of, fixed_digits}

both_left : (a b : Bool) → (a && b) ≡ true → a ≡ true
both_left true b h = refl
both_left false b h = h

pub length-fixed_digits : (width n : ℕ) → length (fixed_digits width n) ≡ width
unfolding fixed_digits
length-fixed_digits zero n = refl
length-fixed_digits (suc width) n =
    rw (length-append, length-fixed_digits width (n / 10)) (omega arith)

-- one more digit in front of the last ones
pub fixed_digits-suc : (width n : ℕ) → fixed_digits (suc width) n ≡ fixed_digits width (n / 10) ++ (48 + n % 10) ∷ []
unfolding fixed_digits
fixed_digits-suc width n = refl

pub fixed_digits-zero : (n : ℕ) → fixed_digits 0 n ≡ []
unfolding fixed_digits
fixed_digits-zero n = refl

-- a digit's character, and the number that it stands for
pub digit_bounds : (c : ℕ) → is_ascii_digit c ≡ true → (48 ≤ c) × (c < 58)
digit_bounds c h = (grind (arith, nat_tests), grind (arith, nat_tests))

digit_value_char : (d : ℕ) → d < 10 → digit_value (48 + d) ≡ d
digit_value_char d h = grind (arith, nat_tests)

is_digit_char : (d : ℕ) → d < 10 → is_ascii_digit (48 + d) ≡ true
is_digit_char d h = grind (arith, nat_tests)

pub char_of_value : (c : ℕ) → is_ascii_digit c ≡ true → (48 + digit_value c ≡ c) × (digit_value c < 10)
char_of_value c h =
    let b = digit_bounds c h in
    let e = digit_value_digit c (search (rules, b)) in
    (omega arith, omega (arith, b.0, b.1))

-- digits one after another are digits
pub is_digits-append : (xs ys : List ℕ) → is_digits xs ≡ true → is_digits ys ≡ true → is_digits (xs ++ ys) ≡ true
is_digits-append xs ys h k = list_all-append is_ascii_digit xs ys ∙ both_true h k

pub is_digits-take : (n : ℕ) (text : List ℕ) → is_digits text ≡ true → is_digits (take n text) ≡ true
is_digits-take n text h =
    let whole : is_digits (take n text ++ drop n text) ≡ true = rw (take-append-drop n text) h in
    both_left _ _ (sym (list_all-append is_ascii_digit (take n text) (drop n text)) ∙ whole)

pub is_digit-at : (text : List ℕ) (i : ℕ) → is_digits text ≡ true → i < length text → is_ascii_digit (get_or text i 0) ≡ true
is_digit-at text i h within =
    elim (is_ascii_digit (get_or text i 0)) as (λ b. is_ascii_digit (get_or text i 0) ≡ b → b ≡ true) [
      | true ↦ λ _. refl
      | false ↦ λ e. sym (list_all_at is_ascii_digit text i 0 within e) ∙ h
    ] refl

pub is_digits-fixed_digits : (width n : ℕ) → is_digits (fixed_digits width n) ≡ true
unfolding fixed_digits
is_digits-fixed_digits zero n = refl
is_digits-fixed_digits (suc width) n =
    is_digits-append (fixed_digits width (n / 10)) ((48 + n % 10) ∷ []) (is_digits-fixed_digits width (n / 10)) (both_true (is_digit_char (n % 10) (omega arith)) refl)

pub number_of-fixed_digits : (width n : ℕ) → n < 10 ^ width → number_of (fixed_digits width n) ≡ n
unfolding fixed_digits
number_of-fixed_digits zero n h = omega arith
number_of-fixed_digits (suc width) n h =
    let less : n < 10 ^ width * 10 = rw pow-suc at h in
    let front : n / 10 < 10 ^ width = omega arith in
    rw (digits_value_push 10 (fixed_digits width (n / 10)) (48 + n % 10), number_of-fixed_digits width (n / 10) front, digit_value_char (n % 10) (omega arith)) (omega arith)

pub fixed_digits-number_of : (width : ℕ) (text : List ℕ) → length text ≡ width → is_digits text ≡ true → fixed_digits width (number_of text) ≡ text
unfolding fixed_digits
fixed_digits-number_of zero [] e h = refl
fixed_digits-number_of zero (c ∷ cs) e h = absurd (omega arith)
fixed_digits-number_of (suc width) text e h =
    let within : width < length text = omega arith in
    let last = char_of_value (get_or text width 0) (is_digit-at text width h within) in
    let front = fixed_digits-number_of width (take width text) (length-take-le width text (omega arith)) (is_digits-take width text h) in
    let whole : take (width + 1) text ≡ text = take_all (width + 1) text (omega arith) in
    let value : number_of text ≡ number_of (take width text) * 10 + digit_value (get_or text width 0) = rw whole at (digits_value_more 10 text width within) in
    let quotient : number_of text / 10 ≡ number_of (take width text) = rw value (div-mul-add (number_of (take width text)) 10 (digit_value (get_or text width 0)) last.1) in
    let rest : number_of text % 10 ≡ digit_value (get_or text width 0) = omega arith in
    let parts : take width text ++ get_or text width 0 ∷ [] ≡ text = sym (take-suc text width 0 within) ∙ take_all (suc width) text (omega arith) in
    rw (quotient, front, rest, last.0) parts

-- the number of one more digit
pub number_step : (text : List ℕ) (i n : ℕ) → i < length text → is_digits text ≡ true → n ≡ number_of (take i text) → n < 10 ^ i → (n * 10 + (get_or text i 0 - 48) ≡ number_of (take (i + 1) text)) × (n * 10 + (get_or text i 0 - 48) < 10 ^ (i + 1))
number_step text i n within digits value bound =
    let char = char_of_value (get_or text i 0) (is_digit-at text i digits within) in
    let less : 10 ^ (i + 1) ≡ 10 ^ i * 10 = rw add-one (pow-suc 10 i) in
    let more = digits_value_more 10 text i within in
    (rw (more, ← value) (omega arith), rw less (omega arith))

-- up to 18 digits and one more are far from the end of 64 bits
pub number_fits : (i n d : ℕ) → i < 18 → n < 10 ^ i → d < 10 → n * 10 + d < 2 ^ 64
number_fits i n d h k small =
    let most : i ≤ 17 = omega arith in
    let below : 10 ^ i ≤ 10 ^ 17 = pow-le-pow_right {n = 10} (lit< tt) most in
    omega arith

-- the digits at the end after one more was written
pub fixed_step : (text all : List ℕ) (i rest : ℕ) → 0 < i → i ≤ length text → fixed_digits i rest ++ drop i text ≡ all → fixed_digits (i - 1) (rest / 10) ++ drop (i - 1) (set text (i - 1) (48 + rest % 10)) ≡ all
fixed_step text all i rest low high so_far =
    let next : i ≡ suc (i - 1) = omega arith in
    let before : fixed_digits (suc (i - 1)) rest ++ drop (suc (i - 1)) text ≡ all = rw (← next) so_far in
    let written : drop (i - 1) (set text (i - 1) (48 + rest % 10)) ≡ (48 + rest % 10) ∷ drop (suc (i - 1)) text =
    rw add-one at (drop-set text (i - 1) (48 + rest % 10) (omega arith)) in
    rw written (sym (append_assoc (fixed_digits (i - 1) (rest / 10)) ((48 + rest % 10) ∷ []) (drop (suc (i - 1)) text)) ∙ rw (← fixed_digits-suc (i - 1) rest) before)

alphanumeric_digit : (c : ℕ) → is_ascii_digit c ≡ true → (is_ascii_alphanumeric c || c == 32) ≡ true
alphanumeric_digit c h = grind (arith, nat_tests)

-- digits are letters, digits and spaces
pub alphanumeric_digits : (text : List ℕ) → is_digits text ≡ true → is_alphanumeric text ≡ true
alphanumeric_digits [] h = refl
alphanumeric_digits (c ∷ cs) h =
    let first : is_ascii_digit c ≡ true = both_left (is_ascii_digit c) (is_digits cs) h in
    let others : is_digits cs ≡ true = rw first at h in
    both_true (alphanumeric_digit c first) (alphanumeric_digits cs others)

-- after the last digit the text is whole
pub all_written : (text all : List ℕ) (i rest : ℕ) → i ≤ 0 → fixed_digits i rest ++ drop i text ≡ all → text ≡ all
all_written text all i rest h so_far =
    let none : i ≡ 0 = omega arith in
    let at_0 : fixed_digits 0 rest ++ drop 0 text ≡ all = rw none at so_far in
    rw (fixed_digits-zero rest) at at_0
