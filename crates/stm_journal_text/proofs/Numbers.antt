-- Numbers in decimal, and versions.
use Rattle.std.proofs.Common.{◌≡◌, ◌≢◌, ℕ, ◌<◌, ◌^◌, inl, inr, List, ◌∷◌, ◌++◌, length, refl, sym, ap, subst, ◌∙◌, arith}
use Rattle.std.specs.Prelude.{Result, Ok, Err, IfSome, IfNone}
use Rattle.std.specs.Result.{OkIff, result_ok}
use Rattle.std.specs.Fmt.{decimal}
use Rattle.std.specs.Str.Parse.{digits_value}
use Rattle.std.proofs.lemmas.Bool.{cases_eq}
use Rattle.std.proofs.lemmas.Fmt.{decimal-digits_value, decimal_is_IsNumeral, decimal_nonempty, decimal_digit, length-decimal-le, first_decimal}
use Rattle.std.proofs.lemmas.Str.Parse.{numerals_by_value}
use Rattle.iso8583.specs.Class.{IsDigits}
use Rattle.stm_memory.specs.declared.version.Version.{Version}
use Rattle.stm_journal_text.specs.Marks.{Lacks}
use Rattle.stm_journal_text.specs.Texts.{version_text, IsVersion, IsShortDecimal}
use Rattle.stm_journal_text.proofs.Marks.{digits_test, decimal_digits, decimal_lacks, parted, not_lacking}

pub decimal_short : (n : ℕ) → n < 2 ^ 32 → IsShortDecimal (decimal n)
decimal_short n h = record {
  nonempty = decimal_nonempty n (omega arith);
  short = length-decimal-le 10 n (omega arith) (omega arith) (omega arith);
  digits = decimal_digits n (omega arith);
  first = λ zero_first. elim (cases_eq n 0) [
    | inl same ↦ ap (λ (m : ℕ). length (decimal m)) same ∙ ap length (decimal_digit 0 (omega arith))
    | inr other ↦ let above = first_decimal n (omega arith) (omega arith) in absurd (omega (arith, above, zero_first))
  ];
}

pub short_decimal : (text : List ℕ) → IsShortDecimal text → digits_value 10 text < 2 ^ 32 → text ≡ decimal (digits_value 10 text)
short_decimal text h fits =
    sym (decimal-digits_value (numerals_by_value IsDigits digits_test) text h.digits h.nonempty h.first (omega arith))

-- a text of another form is no number
pub not_decimal : (text : List ℕ) (n : ℕ) → ¬ IsShortDecimal text → n < 2 ^ 32 → text ≢ decimal n
not_decimal text n other h same = other (subst IsShortDecimal (sym same) (decimal_short n h))

-- the digits of a number stand for it
pub value_of_decimal : (text : List ℕ) (n : ℕ) → n < 2 ^ 32 → text ≡ decimal n → digits_value 10 text ≡ n
value_of_decimal text n h same = ap (digits_value 10) same ∙ (decimal_is_IsNumeral n (omega arith)).1

-- a version has a full stop
pub version_marked : (text : List ℕ) (v : Version) → Lacks 46 text → text ≢ version_text v
version_marked text v lacks same = not_lacking 46 (decimal v.index) (decimal v.incarnation) (subst (Lacks 46) same lacks)

-- the parts of a version
pub version_parts : (text a b : List ℕ) (v : Version) → text ≡ a ++ 46 ∷ b → Lacks 46 a → IsVersion v → text ≡ version_text v
    → (a ≡ decimal v.index) × (b ≡ decimal v.incarnation)
version_parts text a b v is lacks h same =
    parted 46 a b (decimal v.index) (decimal v.incarnation) lacks (decimal_lacks 46 v.index refl h.index) (sym is ∙ same)

-- a short number that fits is what the text writes
pub number_found : {E : Type 0} (text : List ℕ) (r : Result ℕ E) (v : ℕ) → OkIff r (v < 2 ^ 32) v → v ≡ digits_value 10 text → IsShortDecimal text
    → IfSome (result_ok r) (λ n. (n < 2 ^ 32) × (text ≡ decimal n))
number_found text (Ok n) v h is short =
    let value : n ≡ digits_value 10 text = h.1 ∙ is in
    let fits : digits_value 10 text < 2 ^ 32 = omega arith in
    (rw h.1 h.0, short_decimal text short fits ∙ ap decimal (sym value))
number_found text (Err e) v h is short = tt

-- and no number is written where it doesn't fit
pub number_missed : {E : Type 0} (text : List ℕ) (r : Result ℕ E) (v : ℕ) → OkIff r (v < 2 ^ 32) v → v ≡ digits_value 10 text
    → IfNone (result_ok r) ((n : ℕ) → n < 2 ^ 32 → text ≢ decimal n)
number_missed text (Ok n) v h is = tt
number_missed text (Err e) v h is = λ n fits same. h (let value = value_of_decimal text n fits same in omega arith)
