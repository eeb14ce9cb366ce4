-- The rules of elements 24 and 39: what reading finds by them.
use Rattle.std.proofs.Common.{◌≡◌, ◌≢◌, ◌⊎◌, ℕ, ◌<◌, Bool, true, false, List, Some, Ok, Err, refl, sym, ap, ◌∙◌, arith, inl, inr}
use Rattle.std.specs.Prelude.{codes}
use Rattle.std.specs.Str.{bytes_eq}
use Rattle.std.proofs.lemmas.Bool.{cases_lt}
use Rattle.std.proofs.lemmas.Slice.Eq.{bytes_eq-Decides}
use Rattle.iso8583.proofs.NumberLaws.{fixed_digits-number_of}
use Rattle.iso8583.specs.Number.{number_of, fixed_digits}
use Rattle.iso8583.specs.declared.codec_fault.CodecFault.{CodecFault}
use Rattle.iso8583.specs.declared.codec_fault.CodecFault.TheVariants.{Unexpected, Missing, BadValue}
use Rattle.iso_laws.specs.declared.rule.Rule.{Rule}
use Rattle.iso_laws.specs.declared.rule.Rule.TheVariants.{Free, Scope, Verdict}
use Rattle.iso_laws.specs.declared.element.Element.TheVariants as element
use Rattle.iso_laws.specs.Elements.{IsText}
use Rattle.iso_laws.specs.Spelling.{is_set}
use Rattle.iso_laws.specs.Reading.{scope_at, verdict_at, rule_at}
use Rattle.iso_laws.specs.FirstWrong.{IsRuled, BreaksRule}
use Rattle.iso_laws.proofs.Codes.{zero_text}

-- two texts are the same or not, and the test says which
tells : (xs ys : List ℕ) → ((xs ≡ ys) × (bytes_eq xs ys ≡ true)) ⊎ ((xs ≢ ys) × (bytes_eq xs ys ≡ false))
tells xs ys =
    elim (bytes_eq xs ys) as (λ b. bytes_eq xs ys ≡ b → ((xs ≡ ys) × (bytes_eq xs ys ≡ true)) ⊎ ((xs ≢ ys) × (bytes_eq xs ys ≡ false))) [
      | true ↦ λ e. inl ((bytes_eq-Decides xs ys).0 e, e)
      | false ↦ λ e. inr (λ s. (let same : bytes_eq xs ys ≡ true = (bytes_eq-Decides xs ys).1 s in cc), e)
    ] refl

differs : (xs ys : List ℕ) → xs ≢ ys → bytes_eq xs ys ≡ false
differs xs ys h = elim (tells xs ys) [ inl x ↦ absurd (h x.0) | inr x ↦ x.1 ]

-- ---- element 24 of a reversal

scope_fault : (bitmap : ℕ) (text : List ℕ) (d : CodecFault) (amount : Bool) → is_set bitmap 30 ≡ amount → scope_at amount text ≡ Err d → BreaksRule Scope bitmap text d
unfolding scope_at
scope_fault bitmap text d true set h =
    elim (tells text (codes "400")) [
      | inl x ↦ (let found = rw x.1 at h in let fault : d ≡ Unexpected 30 = cc in inr (inl (x.0, set, fault)))
      | inr x ↦ elim (tells text (codes "401")) [
        | inl y ↦ (let found = rw (x.1, y.1) at h in absurd cc)
        | inr y ↦ (let found = rw (x.1, y.1) at h in let fault : d ≡ BadValue 24 = cc in inl (x.0, y.0, fault))
      ]
    ]
scope_fault bitmap text d false set h =
    elim (tells text (codes "400")) [
      | inl x ↦ (let found = rw x.1 at h in absurd cc)
      | inr x ↦ elim (tells text (codes "401")) [
        | inl y ↦ (let found = rw (x.1, y.1) at h in let fault : d ≡ Missing 30 = cc in inr (inr (y.0, set, fault)))
        | inr y ↦ (let found = rw (x.1, y.1) at h in let fault : d ≡ BadValue 24 = cc in inl (x.0, y.0, fault))
      ]
    ]

scope_ruled : (bitmap : ℕ) (text : List ℕ) (amount : Bool) → is_set bitmap 30 ≡ amount → scope_at amount text ≡ Ok tt → IsRuled Scope bitmap text
unfolding scope_at
scope_ruled bitmap text true set h =
    elim (tells text (codes "400")) [
      | inl x ↦ (let found = rw x.1 at h in absurd cc)
      | inr x ↦ elim (tells text (codes "401")) [
        | inl y ↦ inr (y.0, set)
        | inr y ↦ (let found = rw (x.1, y.1) at h in absurd cc)
      ]
    ]
scope_ruled bitmap text false set h =
    elim (tells text (codes "400")) [
      | inl x ↦ inl (x.0, set)
      | inr x ↦ elim (tells text (codes "401")) [
        | inl y ↦ (let found = rw (x.1, y.1) at h in absurd cc)
        | inr y ↦ (let found = rw (x.1, y.1) at h in absurd cc)
      ]
    ]

-- ---- element 39 of an 1110

verdict_fault : (bitmap : ℕ) (text : List ℕ) (d : CodecFault) (approval : Bool) → is_set bitmap 38 ≡ approval → verdict_at approval text ≡ Err d → BreaksRule Verdict bitmap text d
unfolding verdict_at
verdict_fault bitmap text d true set h =
    elim (tells text (codes "000")) [
      | inl x ↦ (let found = rw x.1 at h in absurd cc)
      | inr x ↦ (let found = rw x.1 at h in let fault : d ≡ Unexpected 38 = cc in inr (x.0, set, fault))
    ]
verdict_fault bitmap text d false set h =
    elim (tells text (codes "000")) [
      | inl x ↦ (let found = rw x.1 at h in let fault : d ≡ Missing 38 = cc in inl (x.0, set, fault))
      | inr x ↦ (let found = rw x.1 at h in absurd cc)
    ]

verdict_ruled : (bitmap : ℕ) (text : List ℕ) (approval : Bool) → is_set bitmap 38 ≡ approval → verdict_at approval text ≡ Ok tt → IsRuled Verdict bitmap text
unfolding verdict_at
verdict_ruled bitmap text true set h =
    elim (tells text (codes "000")) [
      | inl x ↦ inl (x.0, set)
      | inr x ↦ (let found = rw x.1 at h in absurd cc)
    ]
verdict_ruled bitmap text false set h =
    elim (tells text (codes "000")) [
      | inl x ↦ (let found = rw x.1 at h in absurd cc)
      | inr x ↦ inr (x.0, set)
    ]

-- ---- any rule

pub rule_fault : (rule : Rule) (bitmap : ℕ) (text : List ℕ) (d : CodecFault) → rule_at rule bitmap (Some text) ≡ Err d → BreaksRule rule bitmap text d
rule_fault Free bitmap text d h = absurd cc
rule_fault Scope bitmap text d h = scope_fault bitmap text d (is_set bitmap 30) refl h
rule_fault Verdict bitmap text d h = verdict_fault bitmap text d (is_set bitmap 38) refl h

pub rule_kept : (rule : Rule) (bitmap : ℕ) (text : List ℕ) → rule_at rule bitmap (Some text) ≡ Ok tt → IsRuled rule bitmap text
rule_kept Free bitmap text h = tt
rule_kept Scope bitmap text h = scope_ruled bitmap text (is_set bitmap 30) refl h
rule_kept Verdict bitmap text h = verdict_ruled bitmap text (is_set bitmap 38) refl h

pub fault_found : (rule : Rule) (bitmap : ℕ) (text : List ℕ) (d : CodecFault) → BreaksRule rule bitmap text d → rule_at rule bitmap (Some text) ≡ Err d
unfolding scope_at verdict_at
fault_found Free bitmap text d h = absurd h
fault_found Scope bitmap text d (inl x) = rw (differs text (codes "400") x.0, differs text (codes "401") x.1, x.2) refl
fault_found Scope bitmap text d (inr (inl x)) = rw (x.0, x.1, x.2) refl
fault_found Scope bitmap text d (inr (inr x)) = rw (x.0, x.1, x.2) refl
fault_found Verdict bitmap text d (inl x) = rw (x.0, x.1, x.2) refl
fault_found Verdict bitmap text d (inr x) = rw (differs text (codes "000") x.0, x.1, x.2) refl

pub none_found : (rule : Rule) (bitmap : ℕ) (text : List ℕ) → IsRuled rule bitmap text → rule_at rule bitmap (Some text) ≡ Ok tt
unfolding scope_at verdict_at
none_found Free bitmap text h = refl
none_found Scope bitmap text (inl x) = rw (x.0, x.1) refl
none_found Scope bitmap text (inr x) = rw (x.0, x.1) refl
none_found Verdict bitmap text (inl x) = rw (x.0, x.1) refl
none_found Verdict bitmap text (inr x) = rw (differs text (codes "000") x.0, x.1) refl

-- ---- what the rules leave of elements 24 and 39

pub full_function : (text : List ℕ) → scope_at false text ≡ Ok tt → codes "400" ≡ text
unfolding scope_at
full_function text h =
    elim (tells text (codes "400")) [
      | inl x ↦ sym x.0
      | inr x ↦ elim (tells text (codes "401")) [
        | inl y ↦ (let found = rw (x.1, y.1) at h in absurd cc)
        | inr y ↦ (let found = rw (x.1, y.1) at h in absurd cc)
      ]
    ]

pub partial_function : (text : List ℕ) → scope_at true text ≡ Ok tt → codes "401" ≡ text
unfolding scope_at
partial_function text h =
    elim (tells text (codes "400")) [
      | inl x ↦ (let found = rw x.1 at h in absurd cc)
      | inr x ↦ elim (tells text (codes "401")) [
        | inl y ↦ sym y.0
        | inr y ↦ (let found = rw (x.1, y.1) at h in absurd cc)
      ]
    ]

pub approved_action : (text : List ℕ) → verdict_at true text ≡ Ok tt → codes "000" ≡ text
unfolding verdict_at
approved_action text h =
    elim (tells text (codes "000")) [
      | inl x ↦ sym x.0
      | inr x ↦ (let found = rw x.1 at h in absurd cc)
    ]

-- an action that the rule takes without an approval code is a decline
pub is_declined : (text : List ℕ) → IsText element.Action text → verdict_at false text ≡ Ok tt → 0 < number_of text
unfolding verdict_at
is_declined text known h =
    elim (cases_lt 0 (number_of text)) [
      | inl lt ↦ lt
      | inr le ↦
          (let none : number_of text ≡ 0 = omega arith in
          let same : text ≡ codes "000" = sym (fixed_digits-number_of 3 text known.0 known.1) ∙ (ap (fixed_digits 3) none ∙ zero_text) in
          let found = rw same at h in
          absurd cc)
    ]
