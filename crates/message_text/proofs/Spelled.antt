-- Elements that are written one by one.
use Rattle.std.proofs.Common.{◌≡◌, ℕ, ◌+◌, ◌-◌, ◌/◌, ◌%◌, ◌^◌, ◌<◌, ◌≤◌, false, cond, eqb, List, ◌++◌, Option, Some, None, refl, sym, ap, ◌∙◌, append_assoc, arith}
use Rattle.std.specs.Prelude.{OnOk, Result, Ok, Err, is_ok}
use Rattle.std.specs.Int.{w64, to_be_bytes}
use Rattle.std.specs.List.{flat_map}
use Rattle.iso_laws.specs.declared.element.Element.{Element}
use Rattle.iso_laws.specs.declared.element.Element.TheVariants as element
use Rattle.iso_laws.specs.Elements.{element_number}
use Rattle.iso_laws.specs.Spelling.{Field, Texts, bitmap_bytes, bitmap_of, field, fields, with_field}
use Rattle.iso_laws.proofs.Bits.{bits_below, bitmap_of-elements, powers}
use Rattle.iso_laws.proofs.Forms.{fields_rise}
use Rattle.iso_laws.proofs.Present.{elements_of}
use Rattle.iso_laws.specs.Types.{bits_of}

-- the bits of all elements have room below bit 1
pub bits_fit : (text : Texts) → bitmap_of (fields text) < 2 ^ 127
bits_fit text =
    let below : bits_of (elements_of (fields text)) < 2 ^ (128 - 1) = bits_below 1 (elements_of (fields text)) (omega arith) (fields_rise text) in
    rw (bitmap_of-elements (fields text)) below

-- the bit of an element that is there
pub bit_there : (e : Element) (text : List ℕ) (given : Option (List ℕ)) (fs : List Field) → given ≡ Some text
    → bitmap_of (with_field e given fs) ≡ 2 ^ (128 - element_number e) + bitmap_of fs
bit_there e text given fs is = rw is refl

-- none of one that is absent
pub absent : (e : Element) (given : Option (List ℕ)) (fs : List Field) → given ≡ None → with_field e given fs ≡ fs
absent e given fs is = rw is refl

-- an element that is there is written before the others
pub written : (e : Element) (text : List ℕ) (given : Option (List ℕ)) (fs : List Field) (out after : List ℕ) → given ≡ Some text → after ≡ out ++ field (e, text)
    → out ++ flat_map field (with_field e given fs) ≡ after ++ flat_map field fs
written e text given fs out after is added =
    ap (λ (g : Option (List ℕ)). out ++ flat_map field (with_field e g fs)) is ∙ sym (append_assoc out (field (e, text)) (flat_map field fs))
    ∙ ap (λ (x : List ℕ). x ++ flat_map field fs) (sym added)

-- two words where an element from 65 on is there
pub extended_written : (o0 o1 o2 a b : List ℕ) (bitmap : ℕ) → eqb (bitmap % 2 ^ 64) 0 ≡ false → a ≡ to_be_bytes w64 (2 ^ 63 + bitmap / 2 ^ 64) → b ≡ to_be_bytes w64 (bitmap % 2 ^ 64)
    → o1 ≡ o0 ++ a → o2 ≡ o1 ++ b → o2 ≡ o0 ++ bitmap_bytes bitmap
unfolding bitmap_bytes
extended_written o0 o1 o2 a b bitmap some first second h k =
    let left : o2 ≡ (o0 ++ a) ++ b = cc in
    let both : cond (eqb (bitmap % 2 ^ 64) 0) (to_be_bytes w64 (bitmap / 2 ^ 64)) (to_be_bytes w64 (2 ^ 63 + bitmap / 2 ^ 64) ++ to_be_bytes w64 (bitmap % 2 ^ 64)) ≡ a ++ b =
    rw (some, first, second) refl in
    left ∙ (append_assoc o0 a b ∙ ap (λ (z : List ℕ). o0 ++ z) (sym both))

-- elements are numbered from two on
numbered : (e : Element) → 2 ≤ element_number e
numbered element.Pan = omega arith
numbered _ = omega arith

-- so the bit of one is below bit 1
pub small_bit : (e : Element) (bit : ℕ) → bit ≡ 2 ^ (128 - element_number e) → bit ≤ 2 ^ 127
small_bit e bit is =
    let from_two = numbered e in
    let least : 2 ^ (128 - element_number e) ≤ 2 ^ 127 = powers (128 - element_number e) 127 (omega (arith, from_two)) in
    rw is least

-- what holds where it was written
pub on_ok : {A E : Type 0} (r : Result A E) (after more before : List ℕ) (Q : Type 0) → after ≡ cond (is_ok r) more before → (after ≡ more → Q) → OnOk r Q
on_ok (Ok x) after more before Q is then = then is
on_ok (Err e) after more before Q is then = tt
