-- The least element of some bits, and what the bits of a type say of a bitmap.
use Rattle.std.proofs.Common.{◌≡◌, ℕ, suc, ◌+◌, ◌-◌, ◌*◌, ◌^◌, ◌<◌, ◌≤◌, min, lit<, Bool, eqb, Option, Some, None, Err, refl, sym, ap, ◌∙◌, arith, inl, inr}
use Rattle.std.specs.Prelude.{not, ◌&&◌, bit_and}
use Rattle.std.specs.Int.{w128, bit_at, bit_not, leading_zeros}
use Rattle.std.proofs.lemmas.Bool.{cases_lt}
use Rattle.std.proofs.lemmas.Nat.{and_le_l, leading_top}
use Rattle.std.proofs.lemmas.Nat.Bits.{bit_at-lt, bit_at-zero, bit_at_above, bit_at_and, bit_at_not}
use Rattle.std.proofs.Math.Nat.{pow-suc}
use Rattle.iso8583.specs.declared.codec_fault.CodecFault.TheVariants.{Unexpected}
use Rattle.iso_laws.specs.Elements.{parts_of}
use Rattle.iso_laws.specs.declared.mti.Mti.{Mti}
use Rattle.iso_laws.specs.declared.mti.Mti.TheVariants as mti
use Rattle.iso_laws.specs.Spelling.{is_set}
use Rattle.iso_laws.specs.Types.{may_have, must_have}
use Rattle.iso_laws.specs.Reading.{least, is_unexpected, is_missing, first_wrong, presence_at}
use Rattle.iso_laws.proofs.Bits.{powers, set_at, top_bit, listed_below, is_set-listed, is_set-required}
use Rattle.iso_laws.proofs.Least.{least_is, least_none, least_same}
use Rattle.iso_laws.proofs.Whole.{rising}

-- ---- the least bit

pub no_bit : (bits : ℕ) → bits ≡ 0 → least (is_set bits) 2 127 ≡ None
no_bit bits h = rw h (least_none (is_set 0) 2 127 (λ n low high. set_at 0 n 0 (bit_at-zero (128 - n))))

high_place : (j bits : ℕ) → 2 ^ j ≤ bits → bits < 2 ^ 127 → j < 127
high_place j bits low fits =
    elim (cases_lt j 127) [
      | inl lt ↦ lt
      | inr le ↦ (let more : 2 ^ 127 ≤ 2 ^ j = powers 127 j le in absurd (omega arith))
    ]

highest : (j bits : ℕ) → 2 ^ j ≤ bits → bits < 2 ^ suc j → bit_at bits j ≡ 1
highest j bits low high =
    let twice : 2 ^ suc j ≡ 2 ^ j * 2 = pow-suc 2 j in
    let whole : 2 ^ j + (bits - 2 ^ j) ≡ bits = omega arith in
    rw whole at (top_bit j (bits - 2 ^ j) (omega arith))

pub least_bit : (bits : ℕ) → 0 < bits → bits < 2 ^ 127 → least (is_set bits) 2 127 ≡ Some (leading_zeros w128 bits + 1)
least_bit bits some fits =
    let top = leading_top 128 bits some (omega arith) in
    let within : top.0 < 127 = high_place top.0 bits top.2 fits in
    let place : 128 - (leading_zeros w128 bits + 1) ≡ top.0 = omega (arith, top.1) in
    least_is (is_set bits) 2 127 (leading_zeros w128 bits + 1) (record {
      low = omega (arith, top.1);
      high = omega (arith, top.1);
      passes = set_at bits (leading_zeros w128 bits + 1) 1 (rw place (highest top.0 bits top.2 top.3));
      below = λ m low less. set_at bits m 0 (bit_at_above bits (suc top.0) (128 - m) top.3 (omega (arith, top.1)));
    })

-- ---- the bits of a type

-- bits that both have fit where those of one do
pub and_fits : (a b : ℕ) → a < 2 ^ 127 → bit_and a b < 2 ^ 127
and_fits a b fits = let less = and_le_l a b in omega arith

pub must_fits : (t : Mti) → must_have t < 2 ^ 127
must_fits mti.Request = lit< tt
must_fits _ = lit< tt

both_bits : (p q : ℕ) → p < 2 → q < 2 → eqb (min p (1 - q)) 1 ≡ (eqb p 1 && not (eqb q 1))
both_bits p q h k =
    elim (cases_lt p 1) [
      | inl lt ↦ (let none : p ≡ 0 = omega arith in elim (cases_lt q 1) [
        | inl lq ↦ (let zero : q ≡ 0 = omega arith in rw (none, zero) refl)
        | inr ge ↦ (let one : q ≡ 1 = omega arith in rw (none, one) refl)
      ])
      | inr le ↦ (let some : p ≡ 1 = omega arith in elim (cases_lt q 1) [
        | inl lq ↦ (let zero : q ≡ 0 = omega arith in rw (some, zero) refl)
        | inr ge ↦ (let one : q ≡ 1 = omega arith in rw (some, one) refl)
      ])
    ]

without : (a m n : ℕ) → m < 2 ^ 128 → 1 ≤ n → n ≤ 128 → is_set (bit_and a (bit_not w128 m)) n ≡ (is_set a n && not (is_set m n))
without a m n fits low high =
    let bit : bit_at (bit_and a (bit_not w128 m)) (128 - n) ≡ min (bit_at a (128 - n)) (1 - bit_at m (128 - n)) =
    bit_at_and a (bit_not w128 m) (128 - n) ∙ ap (λ (b : ℕ). min (bit_at a (128 - n)) b) (bit_at_not w128 m (128 - n) fits (omega arith)) in
    set_at (bit_and a (bit_not w128 m)) n (min (bit_at a (128 - n)) (1 - bit_at m (128 - n))) bit ∙ both_bits (bit_at a (128 - n)) (bit_at m (128 - n)) (bit_at-lt a (128 - n)) (bit_at-lt m (128 - n))

unexpected_bits : (t : Mti) (bitmap : ℕ) → least (is_set (bit_and bitmap (bit_not w128 (may_have t)))) 2 127 ≡ least (is_unexpected (parts_of t) bitmap) 2 127
unexpected_bits t bitmap =
    let fits : may_have t < 2 ^ 127 = listed_below (parts_of t) (rising t) in
    least_same (is_set (bit_and bitmap (bit_not w128 (may_have t)))) (is_unexpected (parts_of t) bitmap) 2 127 (λ n low high.
    without bitmap (may_have t) n (omega arith) (omega arith) (omega arith) ∙ ap (λ (b : Bool). is_set bitmap n && not b) (is_set-listed (parts_of t) n (rising t) (omega arith) (omega arith)))

missing_bits : (t : Mti) (bitmap : ℕ) → bitmap < 2 ^ 127 → least (is_set (bit_and (must_have t) (bit_not w128 bitmap))) 2 127 ≡ least (is_missing (parts_of t) bitmap) 2 127
missing_bits t bitmap fits =
    least_same (is_set (bit_and (must_have t) (bit_not w128 bitmap))) (is_missing (parts_of t) bitmap) 2 127 (λ n low high.
    without (must_have t) bitmap n (omega arith) (omega arith) (omega arith) ∙ ap (λ (b : Bool). b && not (is_set bitmap n)) (is_set-required (parts_of t) n (rising t) (omega arith) (omega arith)))

-- ---- the first fault of a bitmap, from what was found of its bits

pub presence_from : (t : Mti) (bitmap may must : ℕ) (stranger gap : Option ℕ) → bitmap < 2 ^ 127 → may ≡ may_have t → must ≡ must_have t
    → stranger ≡ least (is_set (bit_and bitmap (bit_not w128 may))) 2 127 → gap ≡ least (is_set (bit_and must (bit_not w128 bitmap))) 2 127 → presence_at (parts_of t) bitmap ≡ first_wrong stranger gap
unfolding presence_at
presence_from t bitmap may must stranger gap fits h k one two =
    let unexpected : stranger ≡ least (is_unexpected (parts_of t) bitmap) 2 127 = (rw h at one) ∙ unexpected_bits t bitmap in
    let missing : gap ≡ least (is_missing (parts_of t) bitmap) 2 127 = (rw k at two) ∙ missing_bits t bitmap fits in
    rw (unexpected, missing) refl

pub stranger_from : (t : Mti) (bitmap may : ℕ) (stranger : Option ℕ) (n : ℕ) → may ≡ may_have t → stranger ≡ least (is_set (bit_and bitmap (bit_not w128 may))) 2 127 → stranger ≡ Some n
    → presence_at (parts_of t) bitmap ≡ Err (Unexpected n)
unfolding presence_at
stranger_from t bitmap may stranger n h one some =
    let unexpected : least (is_unexpected (parts_of t) bitmap) 2 127 ≡ Some n = sym (unexpected_bits t bitmap) ∙ (sym (rw h at one) ∙ some) in
    rw unexpected refl
