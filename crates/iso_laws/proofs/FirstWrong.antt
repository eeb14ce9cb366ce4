-- Which element's fault reading names, and when.
use Rattle.std.proofs.Common.{◌≡◌, ◌≢◌, ◌⊎◌, ℕ, ◌≤◌, Bool, true, false, cond, eqb, ltb, List, [], ◌∷◌, ◌++◌, length, take, drop, Option, Some, None, Result, Ok, Err, refl, sym, ap, subst, ◌∙◌, append_assoc, arith, inl, inr}
use Rattle.std.specs.Prelude.{not, ◌||◌, ◌&&◌, IfErr}
use Rattle.std.specs.List.{flat_map}
use Rattle.std.proofs.lemmas.Bool.{ltb-false, lt-ltb, le-ltb, or_right}
use Rattle.iso8583.specs.Number.{number_of}
use Rattle.iso8583.specs.declared.codec_fault.CodecFault.{CodecFault}
use Rattle.iso8583.specs.declared.codec_fault.CodecFault.TheVariants.{Short, BadLength, BadCharacter, Trailing, BadValue}
use Rattle.iso_laws.specs.declared.element.Element.{Element}
use Rattle.iso_laws.specs.declared.mti.Mti.{Mti}
use Rattle.iso_laws.specs.declared.shape.Shape.{Shape}
use Rattle.iso_laws.specs.declared.shape.Shape.TheVariants.{Fixed, UpTo}
use Rattle.iso_laws.specs.Elements.{element_number, shape_of, class_of, is_of_class, has_value, HasShape, IsText, Part, parts_of}
use Rattle.iso_laws.specs.Spelling.{Field, field, is_set}
use Rattle.iso_laws.specs.FirstWrong.{EndsTooSoon, HasWrongLength, IsRuled, IsWrongText, IsFaultOf, those_there, AreRight, IsFirstWrong}
use Rattle.iso_laws.specs.Faults.{IsBitmapOf, IsOfElement, NamesTheFirstWrongElement, NamesAnElementBehindItsBitmap}
use Rattle.iso_laws.specs.Reading.{◌>>=◌, bytes_at, is_length, shaped_at, element_at, optional_at, rule_at, with_first, fields_at, whole_at, least, is_listed, is_required, is_unexpected, is_missing, presence_at, header_at, reading}
use Rattle.iso_laws.proofs.Bits.{is_sound}
use Rattle.iso_laws.proofs.BitmapFaults.{none_from, none_then, behind, reading_known, required_number}
use Rattle.iso_laws.proofs.BitsFaults.{few_bytes}
use Rattle.iso_laws.proofs.Elements.{bind_err, guard_ok, shaped_taken, shaped_again, is_short, element_taken, element_again}
use Rattle.iso_laws.proofs.HeaderFaults.{header_holds}
use Rattle.iso_laws.proofs.Headers.{Header, header_taken}
use Rattle.iso_laws.proofs.Least.{least_none}
use Rattle.iso_laws.proofs.Present.{present_parts, some_read, some_again, none_again, no_rule}
use Rattle.iso_laws.proofs.Rules.{rule_fault, rule_kept, fault_found, none_found}
use Rattle.iso_laws.proofs.Whole.{rising}

abbrev Cut : Type 0
Cut = Result (List ℕ × List ℕ) CodecFault

abbrev Read : Type 0
Read = Result (List Field × List ℕ) CodecFault

-- ---- its length and its text

bytes_cut : (n size : ℕ) (bytes : List ℕ) (x : List ℕ × List ℕ) → bytes_at n size bytes ≡ Ok x → (size ≤ length bytes) × (take size bytes ≡ x.0) × (drop size bytes ≡ x.1)
bytes_cut n size bytes x h =
    let g = guard_ok (ltb (length bytes) size) (Short n) (take size bytes, drop size bytes) x h in
    (ltb-false (length bytes) size g.0, ap (λ (p : List ℕ × List ℕ). p.0) g.1, ap (λ (p : List ℕ × List ℕ). p.1) g.1)

abbrev IsShapeFault : ℕ → Shape → List ℕ → CodecFault → Type 0
IsShapeFault n shape bytes d = (EndsTooSoon shape bytes × (d ≡ Short n)) ⊎ (HasWrongLength shape bytes × (d ≡ BadLength n))

shape_fault : (n : ℕ) (shape : Shape) (bytes : List ℕ) (d : CodecFault) → shaped_at n shape bytes ≡ Err d → IsShapeFault n shape bytes d
unfolding shaped_at
shape_fault n (Fixed size) bytes d h = (let few = few_bytes n size bytes d h in inl (few.0, sym few.1))
shape_fault n (UpTo min max) bytes d h =
    elim (bind_err (bytes_at n 2 bytes) (λ x. cond (is_length min max x.0) (bytes_at n (number_of x.0) x.1) (Err (BadLength n))) d h) [
      | inl e ↦ (let few = few_bytes n 2 bytes d e in inl (inl few.0, sym few.1))
      | inr x ↦
          (let cut = bytes_cut n 2 bytes x.0 x.1 in
          elim (is_length min max x.0.0) as (λ b. is_length min max x.0.0 ≡ b → (let r : Cut = cond b (bytes_at n (number_of x.0.0) x.0.1) (Err (BadLength n)) in r) ≡ Err d → IsShapeFault n (UpTo min max) bytes d) [
            | true ↦ λ e k. (let few = few_bytes n (number_of x.0.0) x.0.1 d k in inl (inr (cut.0, rw cut.1 e, rw (cut.1, cut.2) few.0), sym few.1))
            | false ↦ λ e k. (let fault : d ≡ BadLength n = cc in inr ((cut.0, rw cut.1 e), fault))
          ] refl x.2)
    ]

too_soon : (n : ℕ) (shape : Shape) (bytes : List ℕ) → EndsTooSoon shape bytes → shaped_at n shape bytes ≡ Err (Short n)
unfolding shaped_at
too_soon n (Fixed size) bytes h = rw (lt-ltb (length bytes) size h) refl
too_soon n (UpTo min max) bytes (inl h) = rw (lt-ltb (length bytes) 2 h) refl
too_soon n (UpTo min max) bytes (inr h) = rw (le-ltb (length bytes) 2 h.0, h.1, lt-ltb (length (drop 2 bytes)) (number_of (take 2 bytes)) h.2) refl

wrong_length : (n : ℕ) (shape : Shape) (bytes : List ℕ) → HasWrongLength shape bytes → shaped_at n shape bytes ≡ Err (BadLength n)
unfolding shaped_at
wrong_length n (Fixed size) bytes h = absurd h
wrong_length n (UpTo min max) bytes h = rw (le-ltb (length bytes) 2 h.0, h.1) refl

text_fault : (bitmap : ℕ) (p : Part) (x : List ℕ × List ℕ) (d : CodecFault)
    → (let r : Cut = cond (not (is_of_class (class_of p.1) x.0)) (Err (BadCharacter (element_number p.1))) (cond (has_value p.1 x.0) (Ok x) (Err (BadValue (element_number p.1)))) in r) ≡ Err d
    → IsWrongText bitmap p x.0 d
text_fault bitmap p x d h =
    elim (is_of_class (class_of p.1) x.0) as (λ b. is_of_class (class_of p.1) x.0 ≡ b
    → (let r : Cut = cond (not b) (Err (BadCharacter (element_number p.1))) (cond (has_value p.1 x.0) (Ok x) (Err (BadValue (element_number p.1)))) in r) ≡ Err d → IsWrongText bitmap p x.0 d) [
      | false ↦ λ e k. (let fault : d ≡ BadCharacter (element_number p.1) = cc in inl (e, fault))
      | true ↦ λ e k. elim (has_value p.1 x.0) as (λ b. has_value p.1 x.0 ≡ b → (let r : Cut = cond b (Ok x) (Err (BadValue (element_number p.1))) in r) ≡ Err d → IsWrongText bitmap p x.0 d) [
        | true ↦ λ v q. absurd cc
        | false ↦ λ v q. (let fault : d ≡ BadValue (element_number p.1) = cc in inr (inl (e, v, fault)))
      ] refl k
    ] refl h

element_fault : (bitmap : ℕ) (p : Part) (bytes : List ℕ) (d : CodecFault) → element_at p.1 bytes ≡ Err d → IsFaultOf bitmap p bytes d
unfolding element_at
element_fault bitmap p bytes d h =
    let n = element_number p.1 in
    elim (bind_err (shaped_at n (shape_of p.1) bytes) (λ x. cond (not (is_of_class (class_of p.1) x.0)) (Err (BadCharacter n)) (cond (has_value p.1 x.0) (Ok x) (Err (BadValue n)))) d h) [
      | inl e ↦ elim (shape_fault n (shape_of p.1) bytes d e) [ inl x ↦ inl x | inr x ↦ inr (inl x) ]
      | inr x ↦ (let shaped = shaped_taken n (shape_of p.1) bytes x.0.0 x.0.1 x.1 in inr (inr (x.0.0, x.0.1, shaped.0, shaped.1, text_fault bitmap p x.0 d x.2)))
    ]

-- what reading makes of an element with the fault
abbrev IsNamed : ℕ → Part → List ℕ → CodecFault → Type 0
IsNamed bitmap p bytes d = (element_at p.1 bytes ≡ Err d) ⊎ ((x : List ℕ × List ℕ) × (element_at p.1 bytes ≡ Ok x) × (rule_at p.2 bitmap (Some x.0) ≡ Err d))

shape_named : (bitmap : ℕ) (p : Part) (bytes : List ℕ) (d : CodecFault) → shaped_at (element_number p.1) (shape_of p.1) bytes ≡ Err d → IsNamed bitmap p bytes d
unfolding element_at
shape_named bitmap p bytes d h = inl (rw h refl)

text_named : (bitmap : ℕ) (p : Part) (text rest : List ℕ) (d : CodecFault) → HasShape (shape_of p.1) text → IsWrongText bitmap p text d → IsNamed bitmap p (field (p.1, text) ++ rest) d
unfolding element_at
text_named bitmap p text rest d shape (inl h) = inl (rw (shaped_again (element_number p.1) (shape_of p.1) text rest (is_short p.1) shape, h.0, h.1) refl)
text_named bitmap p text rest d shape (inr (inl h)) = inl (rw (shaped_again (element_number p.1) (shape_of p.1) text rest (is_short p.1) shape, h.0, h.1, h.2) refl)
text_named bitmap p text rest d shape (inr (inr h)) = inr ((text, rest), element_again p.1 text rest (shape, h.0, h.1), fault_found p.2 bitmap text d h.2)

fault_named : (bitmap : ℕ) (p : Part) (bytes : List ℕ) (d : CodecFault) → IsFaultOf bitmap p bytes d → IsNamed bitmap p bytes d
fault_named bitmap p bytes d (inl h) = shape_named bitmap p bytes d (too_soon (element_number p.1) (shape_of p.1) bytes h.0 ∙ ap (λ (e : CodecFault). let r : Cut = Err e in r) (sym h.1))
fault_named bitmap p bytes d (inr (inl h)) = shape_named bitmap p bytes d (wrong_length (element_number p.1) (shape_of p.1) bytes h.0 ∙ ap (λ (e : CodecFault). let r : Cut = Err e in r) (sym h.1))
fault_named bitmap p bytes d (inr (inr h)) = subst (λ (z : List ℕ). IsNamed bitmap p z d) (sym h.2) (text_named bitmap p h.0 h.1 d h.3 h.4)

-- ---- the elements in front of it

-- reading an element that is there, and those behind it
abbrev step_at : ℕ → Part → List Part → Bool → List ℕ → Read
step_at bitmap p ps there bytes = optional_at there p.1 bytes >>= λ x. rule_at p.2 bitmap x.0 >>= λ _. with_first p.1 x.0 (fields_at bitmap ps x.1)

first_err : (e : Element) (text : Option (List ℕ)) (read : Read) (d : CodecFault) → with_first e text read ≡ Err d → read ≡ Err d
first_err e text (Ok x) d h = absurd cc
first_err e text (Err f) d h = cc

some_err : (e : Element) (bytes : List ℕ) (d : CodecFault) → optional_at true e bytes ≡ Err d → element_at e bytes ≡ Err d
unfolding optional_at
some_err e bytes d h =
    elim (bind_err (element_at e bytes) (λ x. let r : Result (Option (List ℕ) × List ℕ) CodecFault = Ok (Some x.0, x.1) in r) d h) [
      | inl k ↦ k
      | inr x ↦ (let none = x.2 in absurd cc)
    ]

here : (bitmap : ℕ) (p : Part) (qs : List Part) (bytes : List ℕ) (d : CodecFault) → IsFaultOf bitmap p bytes d → IsFirstWrong bitmap (p ∷ qs) bytes d
here bitmap p qs bytes d h = ([], p, qs, [], bytes, refl, tt, refl, h)

further : (bitmap : ℕ) (p : Part) (qs : List Part) (bytes text mid : List ℕ) (d : CodecFault) → (bytes ≡ field (p.1, text) ++ mid) × IsText p.1 text → IsRuled p.2 bitmap text
    → IsFirstWrong bitmap qs mid d → IsFirstWrong bitmap (p ∷ qs) bytes d
further bitmap p qs bytes text mid d one ruled (before, q, after, fields, behind, split, right, spelled, fault) = (
  p ∷ before,
  q,
  after,
  (p.1, text) ∷ fields,
  behind,
  ap (λ (z : List Part). p ∷ z) split,
  (refl, one.1, ruled, right),
  one.0 ∙ (ap (λ (z : List ℕ). field (p.1, text) ++ z) spelled ∙ sym (append_assoc (field (p.1, text)) (flat_map field fields) behind)),
  fault,
)

ruled_fault : (bitmap : ℕ) (p : Part) (bytes text mid : List ℕ) (d : CodecFault) → (bytes ≡ field (p.1, text) ++ mid) × IsText p.1 text → rule_at p.2 bitmap (Some text) ≡ Err d → IsFaultOf bitmap p bytes d
ruled_fault bitmap p bytes text mid d one h = inr (inr (text, mid, one.0, one.1.0, inr (inr (one.1.1, one.1.2, rule_fault p.2 bitmap text d h))))

wrong_behind : (bitmap : ℕ) (p : Part) (ps : List Part) (bytes text mid : List ℕ) (d : CodecFault)
    → (fields_at bitmap ps mid ≡ Err d → IsFirstWrong bitmap (present_parts bitmap ps) mid d) → (bytes ≡ field (p.1, text) ++ mid) × IsText p.1 text
    → (rule_at p.2 bitmap (Some text) >>= λ _. with_first p.1 (Some text) (fields_at bitmap ps mid)) ≡ Err d → IsFirstWrong bitmap (p ∷ present_parts bitmap ps) bytes d
wrong_behind bitmap p ps bytes text mid d others one h =
    elim (bind_err (rule_at p.2 bitmap (Some text)) (λ _. with_first p.1 (Some text) (fields_at bitmap ps mid)) d h) [
      | inl e ↦ here bitmap p (present_parts bitmap ps) bytes d (ruled_fault bitmap p bytes text mid d one e)
      | inr x ↦ further bitmap p (present_parts bitmap ps) bytes text mid d one (rule_kept p.2 bitmap text x.1) (others (first_err p.1 (Some text) (fields_at bitmap ps mid) d x.2))
    ]

wrong_step : (bitmap : ℕ) (p : Part) (ps : List Part) (bytes : List ℕ) (d : CodecFault) (there : Bool)
    → ((mid : List ℕ) → fields_at bitmap ps mid ≡ Err d → IsFirstWrong bitmap (present_parts bitmap ps) mid d)
    → step_at bitmap p ps there bytes ≡ Err d → IsFirstWrong bitmap (cond there (p ∷ present_parts bitmap ps) (present_parts bitmap ps)) bytes d
wrong_step bitmap p ps bytes d true others h =
    elim (bind_err (optional_at true p.1 bytes) (λ x. rule_at p.2 bitmap x.0 >>= λ _. with_first p.1 x.0 (fields_at bitmap ps x.1)) d h) [
      | inl e ↦ here bitmap p (present_parts bitmap ps) bytes d (element_fault bitmap p bytes d (some_err p.1 bytes d e))
      | inr x ↦
          (let s = some_read p.1 bytes x.0 x.1 in
          let after : (rule_at p.2 bitmap (Some s.0.0) >>= λ _. with_first p.1 (Some s.0.0) (fields_at bitmap ps s.0.1)) ≡ Err d =
          subst (λ (z : Option (List ℕ) × List ℕ). (rule_at p.2 bitmap z.0 >>= λ _. with_first p.1 z.0 (fields_at bitmap ps z.1)) ≡ Err d) (sym s.2) x.2 in
          wrong_behind bitmap p ps bytes s.0.0 s.0.1 d (others s.0.1) (element_taken p.1 bytes s.0.0 s.0.1 s.1) after)
    ]
wrong_step bitmap p ps bytes d false others h =
    let after : with_first p.1 None (fields_at bitmap ps bytes) ≡ Err d = rw (none_again p.1 bytes, no_rule p.2 bitmap) at h in
    others bytes (first_err p.1 None (fields_at bitmap ps bytes) d after)

fields_wrong : (bitmap : ℕ) (ps : List Part) (bytes : List ℕ) (d : CodecFault) → fields_at bitmap ps bytes ≡ Err d → IsFirstWrong bitmap (present_parts bitmap ps) bytes d
unfolding fields_at
fields_wrong bitmap [] bytes d h = absurd cc
fields_wrong bitmap (p ∷ ps) bytes d h = wrong_step bitmap p ps bytes d (p.0 || is_set bitmap (element_number p.1)) (λ mid k. fields_wrong bitmap ps mid d k) h

-- ---- and back

here_named : (bitmap : ℕ) (p : Part) (ps : List Part) (bytes : List ℕ) (d : CodecFault) → IsFaultOf bitmap p bytes d → step_at bitmap p ps true bytes ≡ Err d
unfolding optional_at
here_named bitmap p ps bytes d h =
    elim (fault_named bitmap p bytes d h) [
      | inl e ↦ rw e refl
      | inr x ↦ rw (x.1, x.2) refl
    ]

same_heads : (p q : Part) (ps qs : List Part) → p ∷ ps ≡ q ∷ qs → (p ≡ q) × (ps ≡ qs)
same_heads p q ps qs h = (cc, cc)

true_step : (bitmap : ℕ) (p : Part) (ps : List Part) (bytes : List ℕ) (d : CodecFault)
    → ((mid : List ℕ) → IsFirstWrong bitmap (present_parts bitmap ps) mid d → fields_at bitmap ps mid ≡ Err d)
    → (before : List Part) (q : Part) (after : List Part) (fields : List Field) (behind : List ℕ) → p ∷ present_parts bitmap ps ≡ before ++ (q ∷ after)
    → AreRight bitmap before fields → bytes ≡ flat_map field fields ++ behind → IsFaultOf bitmap q behind d → step_at bitmap p ps true bytes ≡ Err d
true_step bitmap p ps bytes d others [] q after [] behind split right spelled fault =
    let heads = same_heads p q (present_parts bitmap ps) after split in
    let whole : bytes ≡ behind = spelled in
    here_named bitmap p ps bytes d (subst (λ (z : Part). IsFaultOf bitmap z bytes d) (sym heads.0) (subst (λ (z : List ℕ). IsFaultOf bitmap q z d) (sym whole) fault))
true_step bitmap p ps bytes d others [] q after (f ∷ fs) behind split right spelled fault = absurd right
true_step bitmap p ps bytes d others (b ∷ bs) q after [] behind split right spelled fault = absurd right
true_step bitmap p ps bytes d others (b ∷ bs) q after (f ∷ fs) behind split right spelled fault =
    let heads = same_heads p b (present_parts bitmap ps) (bs ++ (q ∷ after)) split in
    let named : f.0 ≡ p.1 = right.0 ∙ ap (λ (z : Part). z.1) (sym heads.0) in
    let passed : rule_at p.2 bitmap (Some f.1) ≡ Ok tt = none_found p.2 bitmap f.1 (subst (λ (z : Part). IsRuled z.2 bitmap f.1) (sym heads.0) right.2) in
    let one : optional_at true p.1 (field (f.0, f.1) ++ (flat_map field fs ++ behind)) ≡ Ok (Some f.1, flat_map field fs ++ behind) =
    subst (λ (e : Element). optional_at true e (field (f.0, f.1) ++ (flat_map field fs ++ behind)) ≡ Ok (Some f.1, flat_map field fs ++ behind)) named (some_again f.0 f.1 (flat_map field fs ++ behind) right.1) in
    let rest = others (flat_map field fs ++ behind) (bs, q, after, fs, behind, heads.1, right.3, refl, fault) in
    rw (spelled, append_assoc (field f) (flat_map field fs) behind, one, passed, rest) refl

not_nil : (before : List Part) (q : Part) (after : List Part) → [] ≢ before ++ (q ∷ after)
not_nil [] q after h = cc
not_nil (b ∷ bs) q after h = cc

named_step : (bitmap : ℕ) (p : Part) (ps : List Part) (bytes : List ℕ) (d : CodecFault) (there : Bool)
    → ((mid : List ℕ) → IsFirstWrong bitmap (present_parts bitmap ps) mid d → fields_at bitmap ps mid ≡ Err d)
    → IsFirstWrong bitmap (cond there (p ∷ present_parts bitmap ps) (present_parts bitmap ps)) bytes d → step_at bitmap p ps there bytes ≡ Err d
named_step bitmap p ps bytes d true others (before, q, after, fields, behind, split, right, spelled, fault) = true_step bitmap p ps bytes d others before q after fields behind split right spelled fault
named_step bitmap p ps bytes d false others h = rw (none_again p.1 bytes, no_rule p.2 bitmap, others bytes h) refl

wrong_named : (bitmap : ℕ) (ps : List Part) (bytes : List ℕ) (d : CodecFault) → IsFirstWrong bitmap (present_parts bitmap ps) bytes d → fields_at bitmap ps bytes ≡ Err d
unfolding fields_at
wrong_named bitmap [] bytes d h = absurd (not_nil h.0 h.1 h.2 h.5)
wrong_named bitmap (p ∷ ps) bytes d h = named_step bitmap p ps bytes d (p.0 || is_set bitmap (element_number p.1)) (λ mid k. wrong_named bitmap ps mid d k) h

-- ---- behind a type and its bitmap

pub same_number : (n : ℕ) → eqb n n ≡ true
same_number n = grind arith

there_same : (bitmap : ℕ) (ps : List Part) → ((n : ℕ) → is_required ps n ≡ true → is_set bitmap n ≡ true) → present_parts bitmap ps ≡ those_there bitmap ps
there_same bitmap [] h = refl
there_same bitmap ((true, e, r) ∷ ps) h =
    let set : is_set bitmap (element_number e) ≡ true = h (element_number e) (rw (same_number (element_number e)) refl) in
    let others : present_parts bitmap ps ≡ those_there bitmap ps = there_same bitmap ps (λ n k. h n (or_right (true && eqb (element_number e) n) (is_required ps n) k)) in
    rw (set, others) refl
there_same bitmap ((false, e, r) ∷ ps) h =
    let others : present_parts bitmap ps ≡ those_there bitmap ps = there_same bitmap ps h in
    rw others refl

pub bitmap_sound : (t : Mti) (bitmap : ℕ) → IsBitmapOf t bitmap → presence_at (parts_of t) bitmap ≡ Ok tt
unfolding presence_at
bitmap_sound t bitmap h =
    let stranger : least (is_unexpected (parts_of t) bitmap) 2 127 ≡ None =
    least_none (is_unexpected (parts_of t) bitmap) 2 127 (λ m low high. none_from (is_set bitmap m) (is_listed (parts_of t) m) (h.0 m low (omega arith))) in
    let gap : least (is_missing (parts_of t) bitmap) 2 127 ≡ None =
    least_none (is_missing (parts_of t) bitmap) 2 127 (λ m low high. none_from (is_required (parts_of t) m) (is_set bitmap m) (h.1 m)) in
    rw (stranger, gap) refl

pub sound_bitmap : (t : Mti) (bitmap : ℕ) → presence_at (parts_of t) bitmap ≡ Ok tt → IsBitmapOf t bitmap
sound_bitmap t bitmap h =
    let sound = is_sound (parts_of t) bitmap h in (
      λ m low high. none_then (is_set bitmap m) (is_listed (parts_of t) m) (sound.unexpected m low high),
      λ m must.
          let number = required_number 1 (parts_of t) m (rising t) must in
          none_then (is_required (parts_of t) m) (is_set bitmap m) (sound.missing m number.0 number.1) must,
    )

whole_wrong : (bitmap : ℕ) (ps : List Part) (rest : List ℕ) (d : CodecFault) → d ≢ Trailing → whole_at bitmap ps rest ≡ Err d → fields_at bitmap ps rest ≡ Err d
unfolding whole_at
whole_wrong bitmap ps rest d other h =
    elim (bind_err (fields_at bitmap ps rest) (λ x. let r : Result (List Field) CodecFault = cond (eqb (length x.1) 0) (Ok x.0) (Err Trailing) in r) d h) [
      | inl e ↦ e
      | inr x ↦ elim (eqb (length x.0.1) 0) as (λ b. (let r : Result (List Field) CodecFault = cond b (Ok x.0.0) (Err Trailing) in r) ≡ Err d → fields_at bitmap ps rest ≡ Err d) [
        | true ↦ λ k. absurd cc
        | false ↦ λ k. absurd (other cc)
      ] x.2
    ]

wrong_whole : (t : Mti) (bitmap : ℕ) (rest : List ℕ) (d : CodecFault) → fields_at bitmap (parts_of t) rest ≡ Err d → behind t bitmap rest ≡ Err d
unfolding whole_at
wrong_whole t bitmap rest d h = rw h refl

whole_err : (t : Mti) (bitmap : ℕ) (rest : List ℕ) (d : CodecFault) → behind t bitmap rest ≡ Err d → whole_at bitmap (parts_of t) rest ≡ Err d
whole_err t bitmap rest d h =
    elim (bind_err (whole_at bitmap (parts_of t) rest) (λ fields. let r : Result (Mti × List Field) CodecFault = Ok (t, fields) in r) d h) [
      | inl e ↦ e
      | inr x ↦ (let none = x.2 in absurd cc)
    ]

pub first_wrong_element : (types : List Mti) → NamesTheFirstWrongElement types
first_wrong_element types t bitmap rest d among fits right other =
    let sound = bitmap_sound t bitmap right in
    let there : present_parts bitmap (parts_of t) ≡ those_there bitmap (parts_of t) = there_same bitmap (parts_of t) right.1 in
    let read = reading_known types t bitmap rest among fits ∙ rw sound refl in (
      λ h. subst (λ (z : List Part). IsFirstWrong bitmap z rest d) there (fields_wrong bitmap (parts_of t) rest d (whole_wrong bitmap (parts_of t) rest d other (whole_err t bitmap rest d (sym read ∙ h)))),
      λ h. read ∙ wrong_whole t bitmap rest d (wrong_named bitmap (parts_of t) rest d (subst (λ (z : List Part). IsFirstWrong bitmap z rest d) (sym there) h)),
    )

abbrev IsOther : CodecFault → Type 0
IsOther d = IsOfElement d → ⊥

pub element_behind : (types : List Mti) → NamesAnElementBehindItsBitmap types
unfolding reading
element_behind types bytes d fits of h =
    elim (bind_err (header_at types bytes) (λ head. whole_at head.1 (parts_of head.0) head.2 >>= λ fields. let r : Result (Mti × List Field) CodecFault = Ok (head.0, fields) in r) d h) [
      | inl e ↦ absurd (subst (λ (r : Result Header CodecFault). IfErr r IsOther) e (header_holds IsOther types bytes (λ k. k refl) (λ k. k) (λ k. k) (record { unexpected = λ n k. k; missing = λ n k. k })) of)
      | inr x ↦ (let head = header_taken types bytes x.0 fits x.1 in (x.0.0, x.0.1, x.0.2, head.among, head.fits, head.spelled, sound_bitmap x.0.0 x.0.1 head.sound))
    ]
