-- The text of a fault, read back.
use Rattle.std.proofs.Common.{◌≡◌, ℕ, ◌<◌, ◌-◌, List, ◌∷◌, ◌++◌, length, take, drop, ap, Bool, true, false, ◌∙◌, arith}
use Rattle.std.proofs.lemmas.List.{take_all, length-append, length-drop}
use Rattle.iso8583.proofs.NumberLaws.{length-fixed_digits, is_digits-fixed_digits, is_digits-append}
use Rattle.issuer_words.specs.Words.{CodecFault, element_of_fault, fault_body, fixed_digits, is_digits, number_of, number_of_fault}
use Rattle.file_laws.proofs.ReadBack.{element_in, number_in}

length_of : (a b : ℕ) → length (70 ∷ (fixed_digits 2 a ++ fixed_digits 3 b)) ≡ 6
length_of a b = omega (arith, length-append (fixed_digits 2 a) (fixed_digits 3 b), length-fixed_digits 2 a, length-fixed_digits 3 b)

digits_of : (a b : ℕ) → is_digits (fixed_digits 2 a ++ fixed_digits 3 b) ≡ true
digits_of a b = is_digits-append (fixed_digits 2 a) (fixed_digits 3 b) (is_digits-fixed_digits 2 a) (is_digits-fixed_digits 3 b)

rest_of : (n : ℕ) (body : List ℕ) → take (length body - n) (drop n body) ≡ drop n body
rest_of n body = take_all (length body - n) (drop n body) (omega (arith, length-drop n body))

-- the text of a fault has six characters, five digits behind the first, and they say its number and its element
pub text_length : (body : List ℕ) (fault : CodecFault) → body ≡ fault_body fault → length body ≡ 6
text_length body fault is = ap length is ∙ length_of (number_of_fault fault) (element_of_fault fault)

pub text_digits : (body : List ℕ) (fault : CodecFault) → body ≡ fault_body fault → is_digits (take (length body - 1) (drop 1 body)) ≡ true
text_digits body fault is = ap is_digits (rest_of 1 body) ∙ ap (λ (b : List ℕ). is_digits (drop 1 b)) is ∙ digits_of (number_of_fault fault) (element_of_fault fault)

pub text_number : (body : List ℕ) (fault : CodecFault) → body ≡ fault_body fault → number_of (take 2 (drop 1 body)) ≡ number_of_fault fault
text_number body fault is = ap (λ (b : List ℕ). number_of (take 2 (drop 1 b))) is ∙ number_in fault

pub text_element : (body : List ℕ) (fault : CodecFault) → element_of_fault fault < 256 → body ≡ fault_body fault → number_of (take (length body - 3) (drop 3 body)) ≡ element_of_fault fault
text_element body fault lt is = ap number_of (rest_of 3 body) ∙ ap (λ (b : List ℕ). number_of (drop 3 b)) is ∙ element_in fault lt

pub clash : (b : Bool) → b ≡ true → b ≡ false → ⊥
clash b yes' no' = absurd cc
