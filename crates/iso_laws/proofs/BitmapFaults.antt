-- Which fault of a bitmap reading names, and when.
use Rattle.std.proofs.Common.{◌≡◌, ℕ, ◌^◌, ◌<◌, ◌≤◌, Bool, true, false, ltb, eqb, leb, List, [], ◌∷◌, Option, Some, None, Result, Ok, Err, refl, ap, ◌∙◌, arith}
use Rattle.std.specs.Prelude.{not, ◌&&◌, ◌||◌}
use Rattle.std.proofs.lemmas.Bool.{and_parts, eqb-true, ltb-true, leb-true}
use Rattle.iso8583.specs.declared.codec_fault.CodecFault.{CodecFault}
use Rattle.iso8583.specs.declared.codec_fault.CodecFault.TheVariants.{Unexpected, Missing}
use Rattle.iso_laws.specs.declared.mti.Mti.{Mti}
use Rattle.iso_laws.specs.Elements.{element_number, Part, parts_of}
use Rattle.iso_laws.specs.Types.{is_among}
use Rattle.iso_laws.specs.Spelling.{Field}
use Rattle.iso_laws.specs.Reading.{◌>>=◌, least, is_required, is_unexpected, is_missing, first_wrong, presence_at, whole_at, reading}
use Rattle.iso_laws.specs.Faults.{begins}
use Rattle.iso_laws.proofs.Conjunctions.{all_three_true}
use Rattle.iso_laws.proofs.Bits.{is_rising}
use Rattle.iso_laws.proofs.Headers.{Header, header_known}

abbrev Whole : Type 0
Whole = Result (Mti × List Field) CodecFault

-- ---- a text that begins with a type of the list and a bitmap

bind_twice : {A B C : Type 0} (r : Result A CodecFault) (f : A → Result B CodecFault) (g : B → Result C CodecFault) → ((r >>= f) >>= g) ≡ (r >>= λ x. f x >>= g)
bind_twice (Ok x) f g = refl
bind_twice (Err d) f g = refl

-- the elements behind the bitmap
abbrev pub behind : Mti → ℕ → List ℕ → Whole
behind t bitmap rest = whole_at bitmap (parts_of t) rest >>= λ fields. let r : Whole = Ok (t, fields) in r

module _ (types : List Mti) (t : Mti) (bitmap : ℕ) (rest : List ℕ) (among : is_among types t ≡ true) (fits : bitmap < 2 ^ 127) where
  pub reading_known : reading types (begins t bitmap rest) ≡ (presence_at (parts_of t) bitmap >>= λ _. behind t bitmap rest)
  unfolding reading
  reading_known =
      rw (header_known types t bitmap rest among fits) (bind_twice (presence_at (parts_of t) bitmap) (λ _. let r : Result Header CodecFault = Ok (t, bitmap, rest) in r)
      (λ head. whole_at head.1 (parts_of head.0) head.2 >>= λ fields. let r : Whole = Ok (head.0, fields) in r))

  pub fault_named : (d : CodecFault) → presence_at (parts_of t) bitmap ≡ Err d → reading types (begins t bitmap rest) ≡ Err d
  fault_named d h = reading_known ∙ rw h refl

-- ---- its bitmap

pub both_from : (a b : Bool) → a ≡ true → b ≡ false → (a && not b) ≡ true
both_from a b h k = rw (h, k) refl

pub both_parts : (a b : Bool) → (a && not b) ≡ true → (a ≡ true) × (b ≡ false)
both_parts true true h = absurd cc
both_parts true false h = (refl, refl)
both_parts false b h = absurd cc

pub none_from : (a b : Bool) → (a ≡ true → b ≡ true) → (a && not b) ≡ false
none_from true b h = rw (h refl) refl
none_from false b h = refl

pub none_then : (a b : Bool) → (a && not b) ≡ false → a ≡ true → b ≡ true
none_then true true h k = refl
none_then true false h k = absurd cc
none_then false b h k = absurd cc

pub wrong_unexpected : (a b : Option ℕ) (n : ℕ) → first_wrong a b ≡ Err (Unexpected n) → a ≡ Some n
wrong_unexpected (Some m) b n h = (let same : m ≡ n = cc in ap (λ (k : ℕ). Some k) same)
wrong_unexpected None (Some m) n h = absurd cc
wrong_unexpected None None n h = absurd cc

pub wrong_missing : (a b : Option ℕ) (n : ℕ) → first_wrong a b ≡ Err (Missing n) → (a ≡ None) × (b ≡ Some n)
wrong_missing (Some m) b n h = absurd cc
wrong_missing None (Some m) n h = (refl, (let same : m ≡ n = cc in ap (λ (k : ℕ). Some k) same))
wrong_missing None None n h = absurd cc

abbrev pub stranger : List Part → ℕ → Option ℕ
stranger ps bitmap = least (is_unexpected ps bitmap) 2 127

abbrev pub gap : List Part → ℕ → Option ℕ
gap ps bitmap = least (is_missing ps bitmap) 2 127

pub presence_is : (ps : List Part) (bitmap : ℕ) → presence_at ps bitmap ≡ first_wrong (stranger ps bitmap) (gap ps bitmap)
unfolding presence_at
presence_is ps bitmap = refl

-- the numbers of the elements that a type requires
pub required_number : (low : ℕ) (ps : List Part) (n : ℕ) → is_rising low ps ≡ true → is_required ps n ≡ true → (low < n) × (n ≤ 128)
required_number low [] n h k = absurd cc
required_number low (p ∷ ps) n h k =
    let parts = all_three_true (ltb low (element_number p.1)) (leb (element_number p.1) 128) (is_rising (element_number p.1) ps) h in
    let above : low < element_number p.1 = ltb-true _ _ parts.0 in
    let within : element_number p.1 ≤ 128 = leb-true _ _ parts.1 in
    elim (p.0 && eqb (element_number p.1) n) as (λ b. (p.0 && eqb (element_number p.1) n) ≡ b → (b || is_required ps n) ≡ true → (low < n) × (n ≤ 128)) [
      | true ↦ λ e _.
          (let same : element_number p.1 ≡ n = eqb-true (element_number p.1) n (and_parts p.0 (eqb (element_number p.1) n) e).1 in
          (omega arith, omega arith))
      | false ↦ λ _ e.
          (let rest = required_number (element_number p.1) ps n parts.2 e in
          (omega (arith, rest.0), rest.1))
    ] refl k
