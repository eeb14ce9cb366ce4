-- When reading names an element as unexpected or missing: by the bitmap, or by the rule of another element.
use Rattle.std.proofs.Common.{◌≡◌, ◌≢◌, ◌⊎◌, ℕ, ◌^◌, ◌<◌, true, List, Some, None, Result, Ok, Err, refl, sym, ap, ◌∙◌, arith, inl, inr}
use Rattle.iso8583.specs.declared.codec_fault.CodecFault.{CodecFault}
use Rattle.iso8583.specs.declared.codec_fault.CodecFault.TheVariants.{Unexpected, Missing, Trailing}
use Rattle.iso_laws.specs.Elements.{parts_of}
use Rattle.iso_laws.specs.declared.mti.Mti.{Mti}
use Rattle.iso_laws.specs.Types.{is_among}
use Rattle.iso_laws.specs.Spelling.{is_set}
use Rattle.iso_laws.specs.FirstWrong.{those_there, IsFirstWrong}
use Rattle.iso_laws.specs.Faults.{begins, IsBitmapOf, IsLeastUnexpected, IsLeastMissing, NamesTheLeastUnexpected, NamesTheLeastMissing}
use Rattle.iso_laws.specs.Reading.{is_listed, is_required, is_unexpected, is_missing, presence_at, reading}
use Rattle.iso_laws.proofs.BitmapFaults.{both_from, both_parts, none_from, none_then, wrong_unexpected, wrong_missing, stranger, gap, presence_is, required_number, fault_named}
use Rattle.iso_laws.proofs.FirstWrong.{first_wrong_element, sound_bitmap}
use Rattle.iso_laws.proofs.Least.{least_is, least_where, least_none, all_fail}
use Rattle.iso_laws.proofs.Whole.{rising}

-- ---- by the bitmap

unexpected_least : (t : Mti) (bitmap n : ℕ) → presence_at (parts_of t) bitmap ≡ Err (Unexpected n) → IsLeastUnexpected t bitmap n
unexpected_least t bitmap n h =
    let place = least_where (is_unexpected (parts_of t) bitmap) 2 127 n (wrong_unexpected (stranger (parts_of t) bitmap) (gap (parts_of t) bitmap) n (sym (presence_is (parts_of t) bitmap) ∙ h)) in
    let here = both_parts (is_set bitmap n) (is_listed (parts_of t) n) place.passes in
    (place.low, omega (arith, place.high), here.0, here.1, λ m least less. none_then (is_set bitmap m) (is_listed (parts_of t) m) (place.below m least less))

least_unexpected_named : (t : Mti) (bitmap n : ℕ) → IsLeastUnexpected t bitmap n → presence_at (parts_of t) bitmap ≡ Err (Unexpected n)
least_unexpected_named t bitmap n h =
    let found : stranger (parts_of t) bitmap ≡ Some n =
    least_is (is_unexpected (parts_of t) bitmap) 2 127 n (record {
      low = h.0;
      high = omega (arith, h.1);
      passes = both_from (is_set bitmap n) (is_listed (parts_of t) n) h.2 h.3;
      below = λ m least less. none_from (is_set bitmap m) (is_listed (parts_of t) m) (h.4 m least less);
    }) in
    presence_is (parts_of t) bitmap ∙ rw found refl

missing_least : (t : Mti) (bitmap n : ℕ) → presence_at (parts_of t) bitmap ≡ Err (Missing n) → IsLeastMissing t bitmap n
missing_least t bitmap n h =
    let wrong = wrong_missing (stranger (parts_of t) bitmap) (gap (parts_of t) bitmap) n (sym (presence_is (parts_of t) bitmap) ∙ h) in
    let place = least_where (is_missing (parts_of t) bitmap) 2 127 n wrong.1 in
    let here = both_parts (is_required (parts_of t) n) (is_set bitmap n) place.passes in (
      λ m least most. none_then (is_set bitmap m) (is_listed (parts_of t) m) (all_fail (is_unexpected (parts_of t) bitmap) 2 127 m wrong.0 least (omega arith)),
      here.0,
      here.1,
      λ m less needed. none_then (is_required (parts_of t) m) (is_set bitmap m) (place.below m (required_number 1 (parts_of t) m (rising t) needed).0 less) needed,
    )

least_missing_named : (t : Mti) (bitmap n : ℕ) → IsLeastMissing t bitmap n → presence_at (parts_of t) bitmap ≡ Err (Missing n)
least_missing_named t bitmap n h =
    let number = required_number 1 (parts_of t) n (rising t) h.1 in
    let none : stranger (parts_of t) bitmap ≡ None =
    least_none (is_unexpected (parts_of t) bitmap) 2 127 (λ m least less. none_from (is_set bitmap m) (is_listed (parts_of t) m) (h.0 m least (omega arith))) in
    let found : gap (parts_of t) bitmap ≡ Some n =
    least_is (is_missing (parts_of t) bitmap) 2 127 n (record {
      low = number.0;
      high = omega (arith, number.1);
      passes = both_from (is_required (parts_of t) n) (is_set bitmap n) h.1 h.2;
      below = λ m least less. none_from (is_required (parts_of t) m) (is_set bitmap m) (h.3 m less);
    }) in
    presence_is (parts_of t) bitmap ∙ rw (none, found) refl

-- ---- by the bitmap, or behind it

abbrev IsBehind : Mti → ℕ → List ℕ → CodecFault → Type 0
IsBehind t bitmap rest d = IsBitmapOf t bitmap × IsFirstWrong bitmap (those_there bitmap (parts_of t)) rest d

module _ (types : List Mti) (t : Mti) (bitmap : ℕ) (rest : List ℕ) (among : is_among types t ≡ true) (fits : bitmap < 2 ^ 127) (d : CodecFault) (other : d ≢ Trailing) where
  either : reading types (begins t bitmap rest) ≡ Err d → (presence_at (parts_of t) bitmap ≡ Err d) ⊎ IsBehind t bitmap rest d
  either h =
      elim (presence_at (parts_of t) bitmap) as (λ r. presence_at (parts_of t) bitmap ≡ r → (r ≡ Err d) ⊎ IsBehind t bitmap rest d) [
        | Ok u ↦ λ e. (let right = sound_bitmap t bitmap e in inr (right, (first_wrong_element types t bitmap rest d among fits right other).0 h))
        | Err f ↦ λ e. (let named = fault_named types t bitmap rest among fits f e in let same : f ≡ d = cc in inl (ap (λ (x : CodecFault). let r : Result (Unit {0}) CodecFault = Err x in r) same))
      ] refl

  behind_named : IsBehind t bitmap rest d → reading types (begins t bitmap rest) ≡ Err d
  behind_named h = (first_wrong_element types t bitmap rest d among fits h.0 other).1 h.1

pub least_unexpected : (types : List Mti) → NamesTheLeastUnexpected types
least_unexpected types t bitmap n rest among fits = (
  λ h. elim (either types t bitmap rest among fits (Unexpected n) (λ e. cc) h) [ inl e ↦ inl (unexpected_least t bitmap n e) | inr x ↦ inr x ],
  λ h. elim h [
    | inl x ↦ fault_named types t bitmap rest among fits (Unexpected n) (least_unexpected_named t bitmap n x)
    | inr x ↦ behind_named types t bitmap rest among fits (Unexpected n) (λ e. cc) x
  ],
)

pub least_missing : (types : List Mti) → NamesTheLeastMissing types
least_missing types t bitmap n rest among fits = (
  λ h. elim (either types t bitmap rest among fits (Missing n) (λ e. cc) h) [ inl e ↦ inl (missing_least t bitmap n e) | inr x ↦ inr x ],
  λ h. elim h [
    | inl x ↦ fault_named types t bitmap rest among fits (Missing n) (least_missing_named t bitmap n x)
    | inr x ↦ behind_named types t bitmap rest among fits (Missing n) (λ e. cc) x
  ],
)
