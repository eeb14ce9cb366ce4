-- What is written piece by piece is the whole spelling.
use Rattle.std.proofs.Common.{◌≡◌, ℕ, ◌+◌, ◌-◌, ◌/◌, ◌%◌, ◌^◌, false, cond, eqb, List, ◌++◌, Option, Some, None, refl, sym, ap, ◌∙◌, append_assoc, arith}
use Rattle.std.specs.Prelude.{is_some, option_map}
use Rattle.arrayvec.specs.ArrayVec.{ArrayVec}
use Rattle.std.specs.Int.{w64, to_be_bytes}
use Rattle.std.specs.List.{flat_map}
use Rattle.std.proofs.lemmas.Grind.{flat_map-append}
use Rattle.iso_laws.proofs.Joined.{fields_among-append}
use Rattle.iso_laws.specs.declared.element.Element.{Element}
use Rattle.iso_laws.specs.Elements.{element_number}
use Rattle.iso_laws.specs.Spelling.{Field, field, with_field, fields_among, bitmap_of, bitmap_bytes}
use Rattle.iso_encoder.specs.declared.parts.Parts.{Parts}
use Rattle.iso_encoder.specs.Writing.{written_texts, bit_if, Writes}

-- the bit of an element, if it is there, and those behind it
pub bitmap_of-with : (e : Element) (text : Option (List ℕ)) (fs : List Field)
    → bitmap_of (with_field e text fs) ≡ bit_if (is_some text) (2 ^ (128 - element_number e)) + bitmap_of fs
bitmap_of-with e None fs = omega arith
bitmap_of-with e (Some text) fs = refl

pub is_some-map : {A B : Type 0} (f : A → B) (o : Option A) → is_some (option_map f o) ≡ is_some o
is_some-map f None = refl
is_some-map f (Some x) = refl

-- two words where an element from 65 on is there
pub extended_written : (o0 o1 o2 a b : List ℕ) (bitmap : ℕ) → eqb (bitmap % 2 ^ 64) 0 ≡ false → a ≡ to_be_bytes w64 (2 ^ 63 + bitmap / 2 ^ 64) → b ≡ to_be_bytes w64 (bitmap % 2 ^ 64)
    → o1 ≡ o0 ++ a → o2 ≡ o1 ++ b → o2 ≡ o0 ++ bitmap_bytes bitmap
unfolding bitmap_bytes
extended_written o0 o1 o2 a b bitmap some first second h k =
    let left : o2 ≡ (o0 ++ a) ++ b = cc in
    let both : cond (eqb (bitmap % 2 ^ 64) 0) (to_be_bytes w64 (bitmap / 2 ^ 64)) (to_be_bytes w64 (2 ^ 63 + bitmap / 2 ^ 64) ++ to_be_bytes w64 (bitmap % 2 ^ 64)) ≡ a ++ b =
    rw (some, first, second) refl in
    left ∙ (append_assoc o0 a b ∙ ap (λ (z : List ℕ). o0 ++ z) (sym both))

-- some elements, and those behind them
pub both : {x : Parts} {es ds : List Element} {a b c : ArrayVec ℕ} {m n : ℕ} → Writes x es a b m → Writes x ds b c n → Writes x (es ++ ds) a c (m + n)
both {x} {es} {ds} {a} {b} {c} first second =
    let text = written_texts x in
    let xs = flat_map field (fields_among es (written_texts x)) in
    let ys = flat_map field (fields_among ds (written_texts x)) in
    let joined : flat_map field (fields_among (es ++ ds) (written_texts x)) ≡ xs ++ ys =
    ap (flat_map field) (fields_among-append (written_texts x) es ds) ∙ flat_map-append field (fields_among es (written_texts x)) (fields_among ds (written_texts x)) in
    let items : c.items ≡ (a.items ++ xs) ++ ys = second.items ∙ ap (λ (z : List ℕ). z ++ ys) first.items in
    record {
      items = items ∙ (append_assoc a.items xs ys ∙ ap (λ (z : List ℕ). a.items ++ z) (sym joined));
      len = omega (arith, first.len, second.len);
    }
