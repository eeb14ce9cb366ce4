-- A bitmap without a fault is that of the elements which it says are there.
use Rattle.std.proofs.Common.{◌≡◌, ℕ, suc, ◌+◌, ◌-◌, ◌*◌, ◌^◌, ◌<◌, ◌≤◌, Bool, true, false, cond, eqb, leb, ltb, List, [], ◌∷◌, Option, Some, None, Ok, refl, sym, ap, ◌∙◌, arith, inl, inr}
use Rattle.std.specs.Prelude.{not, ◌||◌, ◌&&◌, map, filter}
use Rattle.std.specs.List.{list_any}
use Rattle.std.specs.Int.{bit_at}
use Rattle.std.proofs.lemmas.Bool.{eqb-true, leb-true, ltb-true, cases_lt}
use Rattle.std.proofs.lemmas.Nat.Bits.{bit_at-lt, same_from_bits_below, bit_at_cat_low, bit_at_cat_high, bit_at_above, bit_at-zero}
use Rattle.std.proofs.Math.Nat.{pow-suc, pow-le-pow_right}
use Rattle.iso_laws.specs.declared.element.Element.{Element}
use Rattle.iso_laws.specs.Elements.{element_number, Part}
use Rattle.iso_laws.specs.Types.{bits_of}
use Rattle.iso_laws.specs.Spelling.{Field, bitmap_of, is_set}
use Rattle.iso_laws.specs.Reading.{least, is_listed, is_required, is_unexpected, is_missing, first_wrong, presence_at}
use Rattle.iso_laws.proofs.Conjunctions.{all_three_true}
use Rattle.iso_laws.proofs.Least.{all_fail}
use Rattle.iso_laws.proofs.Present.{present, elements_of}

pub bitmap_of-elements : (fields : List Field) → bitmap_of fields ≡ bits_of (elements_of fields)
bitmap_of-elements [] = refl
bitmap_of-elements (f ∷ fs) = ap (λ n. 2 ^ (128 - element_number f.0) + n) (bitmap_of-elements fs)

-- numbers that rise from above one to 128
abbrev pub Rises : ℕ → List Element → Type 0
Rises low [] = Unit {0}
Rises low (e ∷ es) = (low < element_number e) × (element_number e ≤ 128) × Rises (element_number e) es

abbrev pub is_rising : ℕ → List Part → Bool
is_rising low [] = true
is_rising low (p ∷ ps) = ltb low (element_number p.1) && leb (element_number p.1) 128 && is_rising (element_number p.1) ps

pub rises_from : (low high : ℕ) (es : List Element) → low ≤ high → Rises high es → Rises low es
rises_from low high [] h r = tt
rises_from low high (e ∷ es) h r = (omega (arith, r.0), r.1, r.2)

rises_here : (there : Bool) (low : ℕ) (e : Element) (es : List Element) → low < element_number e → element_number e ≤ 128 → Rises (element_number e) es → Rises low (cond there (e ∷ es) es)
rises_here true low e es h k r = (h, k, r)
rises_here false low e es h k r = rises_from low (element_number e) es (omega arith) r

pub present_rises : (bitmap low : ℕ) (ps : List Part) → is_rising low ps ≡ true → Rises low (present bitmap ps)
present_rises bitmap low [] h = tt
present_rises bitmap low (p ∷ ps) h =
    let parts = all_three_true (ltb low (element_number p.1)) (leb (element_number p.1) 128) (is_rising (element_number p.1) ps) h in
    rises_here (p.0 || is_set bitmap (element_number p.1)) low p.1 (present bitmap ps) (ltb-true _ _ parts.0) (leb-true _ _ parts.1) (present_rises bitmap (element_number p.1) ps parts.2)

pub powers : (i j : ℕ) → i ≤ j → 2 ^ i ≤ 2 ^ j
powers i j h = let positive : 0 < 2 = omega arith in pow-le-pow_right positive h

-- bits of rising elements stay below the next higher one
pub bits_below : (low : ℕ) (es : List Element) → low ≤ 128 → Rises low es → bits_of es < 2 ^ (128 - low)
bits_below low [] h r =
    let one : 2 ^ 0 ≤ 2 ^ (128 - low) = powers 0 (128 - low) (omega arith) in
    omega arith
bits_below low (e ∷ es) h r =
    let rest : bits_of es < 2 ^ (128 - element_number e) = bits_below (element_number e) es r.1 r.2 in
    let twice : 2 ^ suc (128 - element_number e) ≡ 2 ^ (128 - element_number e) * 2 = pow-suc 2 (128 - element_number e) in
    let more : 2 ^ suc (128 - element_number e) ≤ 2 ^ (128 - low) = powers (suc (128 - element_number e)) (128 - low) (omega (arith, r.0, r.1)) in
    omega arith

abbrev pub has_number : ℕ → List Element → Bool
has_number n es = list_any (λ e. eqb (element_number e) n) es

pub set_at : (bitmap n b : ℕ) → bit_at bitmap (128 - n) ≡ b → is_set bitmap n ≡ eqb b 1
set_at bitmap n b h = ap (λ x. eqb x 1) h

eqb-above : (m n : ℕ) → m < n → (eqb m n ≡ false) × (eqb n m ≡ false)
eqb-above m n h = (grind arith, grind arith)

-- the highest bit, or one of the others
pub top_bit : (k r : ℕ) → r < 2 ^ k → bit_at (2 ^ k + r) k ≡ 1
top_bit k r h =
    let sum : 2 ^ k + r ≡ 1 * 2 ^ k + r = omega arith in
    let none : k - k ≡ 0 = omega arith in
    rw (sum, bit_at_cat_high 1 k r k h (omega arith), none) refl

low_bit : (k r i : ℕ) → i < k → bit_at (2 ^ k + r) i ≡ bit_at r i
low_bit k r i h =
    let sum : 2 ^ k + r ≡ 1 * 2 ^ k + r = omega arith in
    rw sum (bit_at_cat_low 1 k r i h)

high_bit : (k r i : ℕ) → r < 2 ^ k → k < i → (bit_at (2 ^ k + r) i ≡ 0) × (bit_at r i ≡ 0)
high_bit k r i h above =
    let sum : 2 ^ k + r ≡ 1 * 2 ^ k + r = omega arith in
    let one : 1 < 2 ^ 1 = omega arith in
    (rw (sum, bit_at_cat_high 1 k r i h (omega arith)) (bit_at_above 1 1 (i - k) one (omega arith)), bit_at_above r k i h (omega arith))

-- bit n of them is that of the element with number n
module _ (e : Element) (es : List Element) (n : ℕ) (one : 1 ≤ n) (most : n ≤ 128) (size : element_number e ≤ 128)
    (rest : bits_of es < 2 ^ (128 - element_number e)) (others : is_set (bits_of es) n ≡ has_number n es) where
  same_number : element_number e ≡ n → is_set (bits_of (e ∷ es)) n ≡ has_number n (e ∷ es)
  same_number h =
      let bit : bit_at (bits_of (e ∷ es)) (128 - n) ≡ 1 = rw (← h) (top_bit (128 - element_number e) (bits_of es) rest) in
      let test : eqb (element_number e) n ≡ true = rw h (grind arith) in
      set_at (bits_of (e ∷ es)) n 1 bit ∙ rw test refl

  lower_number : element_number e < n → is_set (bits_of (e ∷ es)) n ≡ has_number n (e ∷ es)
  lower_number h =
      let bit : bit_at (bits_of (e ∷ es)) (128 - n) ≡ bit_at (bits_of es) (128 - n) = low_bit (128 - element_number e) (bits_of es) (128 - n) (omega arith) in
      let test = eqb-above (element_number e) n h in
      set_at (bits_of (e ∷ es)) n (bit_at (bits_of es) (128 - n)) bit ∙ rw test.0 others

  higher_number : n < element_number e → is_set (bits_of (e ∷ es)) n ≡ has_number n (e ∷ es)
  higher_number h =
      let bits = high_bit (128 - element_number e) (bits_of es) (128 - n) rest (omega arith) in
      let test = eqb-above n (element_number e) h in
      let none : has_number n es ≡ false = sym others ∙ set_at (bits_of es) n 0 bits.1 in
      set_at (bits_of (e ∷ es)) n 0 bits.0 ∙ rw (test.1, none) refl

pub is_set-bits_of : (low n : ℕ) (es : List Element) → low ≤ 128 → Rises low es → 1 ≤ n → n ≤ 128 → is_set (bits_of es) n ≡ has_number n es
is_set-bits_of low n [] h r one most = rw (bit_at-zero (128 - n)) refl
is_set-bits_of low n (e ∷ es) h r one most =
    let rest : bits_of es < 2 ^ (128 - element_number e) = bits_below (element_number e) es r.1 r.2 in
    let others = is_set-bits_of (element_number e) n es r.1 r.2 one most in
    elim (cases_lt (element_number e) n) [
      | inl lt ↦ lower_number e es n one most r.1 rest others lt
      | inr le ↦ elim (cases_lt n (element_number e)) [
        | inl gt ↦ higher_number e es n one most r.1 rest others gt
        | inr ge ↦ same_number e es n one most r.1 rest others (omega arith)
      ]
    ]

pub and_false : (b : Bool) → (b && false) ≡ false
and_false true = refl
and_false false = refl

pub and_true : (b : Bool) → (b && true) ≡ b
and_true true = refl
and_true false = refl

pub or_true : (b : Bool) → (b || true) ≡ true
or_true true = refl
or_true false = refl

pub or_false : (b : Bool) → (b || false) ≡ b
or_false true = refl
or_false false = refl

-- which numbers are there: an element with number n is where it is required or bit n is set
there_step : (bitmap n : ℕ) (p : Part) (there known : Bool) (ps : List Part) (same : Bool) → eqb (element_number p.1) n ≡ same → (same ≡ true → there ≡ (p.0 || known))
    → has_number n (cond there (p.1 ∷ present bitmap ps) (present bitmap ps)) ≡ ((p.0 || known) && same) || has_number n (present bitmap ps)
there_step bitmap n p there known ps true h k =
    rw (k refl, and_true (p.0 || known)) (elim (p.0 || known) as (λ b. has_number n (cond b (p.1 ∷ present bitmap ps) (present bitmap ps)) ≡ b || has_number n (present bitmap ps)) [ true ↦ rw h refl | false ↦ refl ])
there_step bitmap n p there known ps false h k =
    rw (and_false (p.0 || known)) (elim there as (λ b. has_number n (cond b (p.1 ∷ present bitmap ps) (present bitmap ps)) ≡ has_number n (present bitmap ps)) [ true ↦ rw h refl | false ↦ refl ])

known_here : (bitmap n : ℕ) (known : Bool) (p : Part) → is_set bitmap n ≡ known → eqb (element_number p.1) n ≡ true → (p.0 || is_set bitmap (element_number p.1)) ≡ (p.0 || known)
known_here bitmap n known p h same = ap (λ (b : Bool). p.0 || b) (ap (λ (k : ℕ). is_set bitmap k) (eqb-true (element_number p.1) n same) ∙ h)

pub has_number-listed : (bitmap n : ℕ) (ps : List Part) → is_set bitmap n ≡ true → has_number n (present bitmap ps) ≡ is_listed ps n
has_number-listed bitmap n [] h = refl
has_number-listed bitmap n (p ∷ ps) h =
    let one = there_step bitmap n p (p.0 || is_set bitmap (element_number p.1)) true ps (eqb (element_number p.1) n) refl (known_here bitmap n true p h) in
    let always : ((p.0 || true) && eqb (element_number p.1) n) ≡ eqb (element_number p.1) n = rw (or_true p.0) refl in
    one ∙ rw (always, has_number-listed bitmap n ps h) refl

pub has_number-required : (bitmap n : ℕ) (ps : List Part) → is_set bitmap n ≡ false → has_number n (present bitmap ps) ≡ is_required ps n
has_number-required bitmap n [] h = refl
has_number-required bitmap n (p ∷ ps) h =
    let one = there_step bitmap n p (p.0 || is_set bitmap (element_number p.1)) false ps (eqb (element_number p.1) n) refl (known_here bitmap n false p h) in
    let only : ((p.0 || false) && eqb (element_number p.1) n) ≡ (p.0 && eqb (element_number p.1) n) = rw (or_false p.0) refl in
    one ∙ rw (only, has_number-required bitmap n ps h) refl

neither_wrong : (a b : Option ℕ) → first_wrong a b ≡ Ok tt → (a ≡ None) × (b ≡ None)
neither_wrong None None h = (refl, refl)
neither_wrong None (Some n) h = absurd cc
neither_wrong (Some n) b h = absurd cc

-- a bitmap without a fault
pub record IsSound (parts : List Part) (bitmap : ℕ) : Type 0 where
  pub unexpected : (n : ℕ) → 2 ≤ n → n ≤ 128 → is_unexpected parts bitmap n ≡ false
  pub missing : (n : ℕ) → 2 ≤ n → n ≤ 128 → is_missing parts bitmap n ≡ false

pub is_sound : (parts : List Part) (bitmap : ℕ) → presence_at parts bitmap ≡ Ok tt → IsSound parts bitmap
unfolding presence_at
is_sound parts bitmap h =
    let w = neither_wrong (least (is_unexpected parts bitmap) 2 127) (least (is_missing parts bitmap) 2 127) h in
    record {
      unexpected = λ n low high. all_fail (is_unexpected parts bitmap) 2 127 n w.0 low (omega arith);
      missing = λ n low high. all_fail (is_missing parts bitmap) 2 127 n w.1 low (omega arith);
    }

not_lower : (low n : ℕ) (es : List Element) → Rises low es → n ≤ low → has_number n es ≡ false
not_lower low n [] r h = refl
not_lower low n (e ∷ es) r h =
    let test = eqb-above n (element_number e) (omega (arith, r.0)) in
    rw (test.1, not_lower (element_number e) n es r.2 (omega (arith, r.0))) refl

listed_there : (set listed required number : Bool) → (set ≡ true → number ≡ listed) → (set ≡ false → number ≡ required) → (set && not listed) ≡ false → (required && not set) ≡ false → set ≡ number
listed_there true true required number h k u m = sym (h refl)
listed_there true false required number h k u m = absurd cc
listed_there false listed true number h k u m = absurd cc
listed_there false listed false number h k u m = sym (k refl)

same_bit : (a b : ℕ) → a < 2 → b < 2 → eqb a 1 ≡ eqb b 1 → a ≡ b
same_bit a b h k e = grind arith

-- bit 1 is that of no element
first_unset : (bitmap : ℕ) → bitmap < 2 ^ 127 → is_set bitmap 1 ≡ false
first_unset bitmap fits = set_at bitmap 1 0 (bit_at_above bitmap 127 127 fits (omega arith))

-- each bit is that of an element which is there
bit_is : (parts : List Part) (bitmap : ℕ) (n : ℕ) → bitmap < 2 ^ 127 → Rises 1 (present bitmap parts) → IsSound parts bitmap → 1 ≤ n → n ≤ 128 → is_set bitmap n ≡ has_number n (present bitmap parts)
bit_is parts bitmap n fits rises sound low high =
    elim (cases_lt 1 n) [
      | inl lt ↦ listed_there (is_set bitmap n) (is_listed parts n) (is_required parts n) (has_number n (present bitmap parts)) (has_number-listed bitmap n parts) (has_number-required bitmap n parts) (sound.unexpected n (omega arith) high) (sound.missing n (omega arith) high)
      | inr le ↦ (let one : n ≡ 1 = omega arith in rw one (first_unset bitmap fits ∙ sym (not_lower 1 1 (present bitmap parts) rises (omega arith))))
    ]

pub bitmap_is : (parts : List Part) (bitmap : ℕ) → is_rising 1 parts ≡ true → bitmap < 2 ^ 127 → presence_at parts bitmap ≡ Ok tt → bitmap ≡ bits_of (present bitmap parts)
bitmap_is parts bitmap rising fits h =
    let sound = is_sound parts bitmap h in
    let es = present bitmap parts in
    let rises : Rises 1 (present bitmap parts) = present_rises bitmap 1 parts rising in
    let below : bits_of (present bitmap parts) < 2 ^ (128 - 1) = bits_below 1 (present bitmap parts) (omega arith) rises in
    same_from_bits_below 127 bitmap (bits_of (present bitmap parts)) fits below (λ i within.
    let place : 128 - (128 - i) ≡ i = omega arith in
    let bit : is_set bitmap (128 - i) ≡ is_set (bits_of (present bitmap parts)) (128 - i) =
    bit_is parts bitmap (128 - i) fits rises sound (omega arith) (omega arith) ∙ sym (is_set-bits_of 1 (128 - i) (present bitmap parts) (omega arith) rises (omega arith) (omega arith)) in
    same_bit (bit_at bitmap i) (bit_at (bits_of (present bitmap parts)) i) (bit_at-lt bitmap i) (bit_at-lt (bits_of (present bitmap parts)) i) (rw place at bit))

-- ---- the bits of a type

pub all_rise : (low : ℕ) (ps : List Part) → is_rising low ps ≡ true → Rises low (map (λ p. p.1) ps)
all_rise low [] h = tt
all_rise low (p ∷ ps) h =
    let parts = all_three_true (ltb low (element_number p.1)) (leb (element_number p.1) 128) (is_rising (element_number p.1) ps) h in
    (ltb-true _ _ parts.0, leb-true _ _ parts.1, all_rise (element_number p.1) ps parts.2)

required_rise : (low : ℕ) (ps : List Part) → is_rising low ps ≡ true → Rises low (map (λ p. p.1) (filter (λ p. p.0) ps))
required_rise low [] h = tt
required_rise low ((true, e, r) ∷ ps) h =
    let parts = all_three_true (ltb low (element_number e)) (leb (element_number e) 128) (is_rising (element_number e) ps) h in
    (ltb-true _ _ parts.0, leb-true _ _ parts.1, required_rise (element_number e) ps parts.2)
required_rise low ((false, e, r) ∷ ps) h =
    let parts = all_three_true (ltb low (element_number e)) (leb (element_number e) 128) (is_rising (element_number e) ps) h in
    let above : low < element_number e = ltb-true _ _ parts.0 in
    rises_from low (element_number e) (map (λ p. p.1) (filter (λ p. p.0) ps)) (omega arith) (required_rise (element_number e) ps parts.2)

all_listed : (n : ℕ) (ps : List Part) → has_number n (map (λ p. p.1) ps) ≡ is_listed ps n
all_listed n [] = refl
all_listed n (p ∷ ps) = ap (λ (b : Bool). eqb (element_number p.1) n || b) (all_listed n ps)

all_required : (n : ℕ) (ps : List Part) → has_number n (map (λ p. p.1) (filter (λ p. p.0) ps)) ≡ is_required ps n
all_required n [] = refl
all_required n ((true, e, r) ∷ ps) = ap (λ (b : Bool). eqb (element_number e) n || b) (all_required n ps)
all_required n ((false, e, r) ∷ ps) = all_required n ps

pub listed_below : (ps : List Part) → is_rising 1 ps ≡ true → bits_of (map (λ p. p.1) ps) < 2 ^ 127
listed_below ps rising = bits_below 1 (map (λ p. p.1) ps) (omega arith) (all_rise 1 ps rising)

pub is_set-listed : (ps : List Part) (n : ℕ) → is_rising 1 ps ≡ true → 1 ≤ n → n ≤ 128 → is_set (bits_of (map (λ p. p.1) ps)) n ≡ is_listed ps n
is_set-listed ps n rising low high = is_set-bits_of 1 n (map (λ p. p.1) ps) (omega arith) (all_rise 1 ps rising) low high ∙ all_listed n ps

pub is_set-required : (ps : List Part) (n : ℕ) → is_rising 1 ps ≡ true → 1 ≤ n → n ≤ 128 → is_set (bits_of (map (λ p. p.1) (filter (λ p. p.0) ps))) n ≡ is_required ps n
is_set-required ps n rising low high = is_set-bits_of 1 n (map (λ p. p.1) (filter (λ p. p.0) ps)) (omega arith) (required_rise 1 ps rising) low high ∙ all_required n ps
