-- Texts of the form of a type are the fields of one of its messages, and no other texts have these fields.
use Rattle.std.proofs.Common.{◌≡◌, ℕ, suc, ◌+◌, ◌-◌, ◌*◌, ◌^◌, ◌<◌, ◌≤◌, Bool, true, false, cond, eqb, List, [], ◌∷◌, Option, Some, None, Ok, refl, sym, ap, subst, ◌∙◌, arith, inl, inr}
use Rattle.std.specs.Prelude.{IfSome, is_some, is_ok, not, map, ◌&&◌, ◌||◌}
use Rattle.std.specs.List.{list_all, find, AllByRecursion}
use Rattle.std.proofs.lemmas.Bool.{and_parts, eqb-true, cases_lt}
use Rattle.std.proofs.Math.Nat.{pow-suc}
use mathlib.Core.Path.{fun_ext}
use Rattle.iso_laws.specs.declared.element.Element.{Element}
use Rattle.iso_laws.specs.declared.element.Element.TheVariants as element
use Rattle.iso_laws.specs.declared.mti.Mti.{Mti}
use Rattle.iso_laws.specs.declared.rule.Rule.{Rule}
use Rattle.iso_laws.specs.declared.rule.Rule.TheVariants.{Free, Scope, Verdict}
use Rattle.iso_laws.specs.Elements.{elements, element_number, IsText, Part, required, parts_of}
use Rattle.iso_laws.specs.Types.{bits_of}
use Rattle.iso_laws.specs.Spelling.{Field, Texts, with_field, fields_among, fields, bitmap_of, is_set}
use Rattle.iso_laws.specs.Forms.{HasForm, AreKnown, AreTextsOf}
use Rattle.iso_laws.specs.Reading.{is_listed, is_required, rule_of, rule_at, presence_at, reading}
use Rattle.iso_laws.proofs.Bits.{Rises, rises_from, all_rise, bits_below, powers, has_number, is_set-bits_of, bitmap_of-elements, present_rises, bitmap_is, and_false, and_true, or_false}
use Rattle.iso_laws.proofs.FirstWrong.{bitmap_sound, sound_bitmap}
use Rattle.iso_laws.proofs.Present.{present, present_parts, are_ruled, elements_of, AreTexts, head_is}
use Rattle.iso_laws.proofs.Whole.{AreFields, rising, reading_found}
use Rattle.iso_laws.proofs.Headers.{IsBytes}

-- ---- an element by its number

abbrev element_of : ℕ → Option Element
element_of n = find (λ e. eqb (element_number e) n) elements

element_again : (e : Element) → element_of (element_number e) ≡ Some e
element_again element.Pan = refl
element_again _ = refl

same_element : (e d : Element) → element_number e ≡ element_number d → e ≡ d
same_element e d h =
    let found : element_of (element_number e) ≡ element_of (element_number d) = ap element_of h in
    let one = element_again e in
    let other = element_again d in
    cc

number_within : (e : Element) → (1 < element_number e) × (element_number e ≤ 128)
number_within element.Pan = (omega arith, omega arith)
number_within _ = (omega arith, omega arith)

none_is : (text : Option (List ℕ)) → is_some text ≡ false → text ≡ None
none_is None h = refl
none_is (Some text) h = absurd cc

listed_passes : (test : Element → Bool) (n : ℕ) (es : List Element) (e : Element) → list_all test es ≡ true
    → find (λ d. eqb (element_number d) n) es ≡ Some e → test e ≡ true
listed_passes test n [] e h k = absurd cc
listed_passes test n (d ∷ es) e h k =
    let both = and_parts (test d) (list_all test es) h in
    elim (eqb (element_number d) n) as (λ b. cond b (Some d) (find (λ d. eqb (element_number d) n) es) ≡ Some e → test e ≡ true) [
      | true ↦ λ l. (let same : d ≡ e = cc in subst (λ (x : Element). test x ≡ true) same both.0)
      | false ↦ λ l. listed_passes test n es e both.1 l
    ] k

-- what all elements pass, each does
pub each_passes : (test : Element → Bool) → list_all test elements ≡ true → (e : Element) → test e ≡ true
each_passes test h e = listed_passes test (element_number e) elements e h (element_again e)

-- a test of a form: an element that must be there is, and one that may not be isn't
abbrev pub suits : List Part → Texts → Element → Bool
suits parts text e = (not (is_required parts (element_number e)) || is_some (text e)) && (is_listed parts (element_number e) || not (is_some (text e)))

abbrev pub AreKept : List Part → Texts → Type 0
AreKept parts text = list_all (λ p. is_ok (rule_of p.2 (λ e. is_some (text e)) (text p.1))) parts ≡ true

pub has_form : (parts : List Part) (text : Texts) → list_all (suits parts text) elements ≡ true → AreKept parts text → HasForm parts text
has_form parts text suited kept = record {
  required = λ e h. needed (is_required parts (element_number e)) (is_some (text e)) (both e).0 h;
  absent = λ e h. none_is (text e) (unneeded (is_listed parts (element_number e)) (is_some (text e)) (both e).1 h);
  ruled = kept;
}
  where
    both : (e : Element)
        → ((not (is_required parts (element_number e)) || is_some (text e)) ≡ true) × ((is_listed parts (element_number e) || not (is_some (text e))) ≡ true)
    both e = and_parts _ _ (each_passes (suits parts text) suited e)

    needed : (a b : Bool) → (not a || b) ≡ true → a ≡ true → b ≡ true
    needed true b h k = h
    needed false b h k = absurd cc

    unneeded : (a b : Bool) → (a || not b) ≡ true → a ≡ false → b ≡ false
    unneeded true b h k = absurd cc
    unneeded false true h k = absurd cc
    unneeded false false h k = refl

-- ---- the elements of fields rise

rise_with : (text : Option (List ℕ)) (low : ℕ) (e : Element) (fs : List Field) → low < element_number e
    → element_number e ≤ 128 → Rises (element_number e) (elements_of fs) → Rises low (elements_of (with_field e text fs))
rise_with None low e fs h k r = rises_from low (element_number e) (elements_of fs) (omega arith) r
rise_with (Some text) low e fs h k r = (h, k, r)

rise_among : (text : Texts) (low : ℕ) (es : List Element) → Rises low es → Rises low (elements_of (fields_among es text))
rise_among text low [] r = tt
rise_among text low (e ∷ es) r =
    rise_with (text e) low e (fields_among es text) r.0 r.1 (rise_among text (element_number e) es r.2)

pub fields_rise : (text : Texts) → Rises 1 (elements_of (fields text))
fields_rise text = rise_among text 1 elements (all_rise 1 (map required elements) refl)

-- two rising lists of the same bits are one
same_bits : (low : ℕ) (es ds : List Element) → Rises low es → Rises low ds → bits_of es ≡ bits_of ds → es ≡ ds
same_bits low [] [] r s h = refl
same_bits low [] (d ∷ ds) r s h =
    let some : 2 ^ 0 ≤ 2 ^ (128 - element_number d) = powers 0 (128 - element_number d) (omega arith) in
    absurd (omega arith)
same_bits low (e ∷ es) [] r s h =
    let some : 2 ^ 0 ≤ 2 ^ (128 - element_number e) = powers 0 (128 - element_number e) (omega arith) in
    absurd (omega arith)
same_bits low (e ∷ es) (d ∷ ds) r s h =
    let left : bits_of es < 2 ^ (128 - element_number e) = bits_below (element_number e) es r.1 r.2 in
    let right : bits_of ds < 2 ^ (128 - element_number d) = bits_below (element_number d) ds s.1 s.2 in
    elim (cases_lt (element_number e) (element_number d)) [
      | inl lt ↦ absurd (higher (128 - element_number e) (128 - element_number d) (bits_of es) (bits_of ds) (omega (arith, s.1)) right h)
      | inr le ↦ elim (cases_lt (element_number d) (element_number e)) [
        | inl lt ↦ absurd (higher (128 - element_number d) (128 - element_number e) (bits_of ds) (bits_of es) (omega (arith, r.1)) left (sym h))
        | inr ge ↦
            (let same : e ≡ d = same_element e d (omega arith) in
            let bit : 2 ^ (128 - element_number e) ≡ 2 ^ (128 - element_number d) = ap (λ (x : Element). 2 ^ (128 - element_number x)) same in
            let rest : es ≡ ds = same_bits (element_number e) es ds r.2 (subst (λ (x : Element). Rises (element_number x) ds) (sym same) s.2) (omega arith) in
            rw (same, rest) refl)
      ]
    ]
  where
    -- the sum with the higher power is the greater one
    higher : (i j x y : ℕ) → j < i → y < 2 ^ j → 2 ^ i + x ≡ 2 ^ j + y → ⊥
    higher i j x y h below e =
        let twice : 2 ^ suc j ≡ 2 ^ j * 2 = pow-suc 2 j in
        let more : 2 ^ suc j ≤ 2 ^ i = powers (suc j) i (omega arith) in
        omega arith

-- ---- an element is there where it has a text

number_with : (n : ℕ) (e : Element) (text : Option (List ℕ)) (fs : List Field)
    → has_number n (elements_of (with_field e text fs)) ≡ (eqb (element_number e) n && is_some text) || has_number n (elements_of fs)
number_with n e None fs = rw (and_false (eqb (element_number e) n)) refl
number_with n e (Some text) fs = rw (and_true (eqb (element_number e) n)) refl

has_text : (text : Texts) (e : Element) → has_number (element_number e) (elements_of (fields text)) ≡ is_some (text e)
has_text text element.Pan = simp (number_with, or_false)
has_text text _ = simp (number_with, or_false)

set_number : (text : Texts) (n : ℕ) → 1 ≤ n → n ≤ 128 → is_set (bitmap_of (fields text)) n ≡ has_number n (elements_of (fields text))
set_number text n low high =
    ap (λ (b : ℕ). is_set b n) (bitmap_of-elements (fields text)) ∙ is_set-bits_of 1 n (elements_of (fields text)) (omega arith) (fields_rise text) low high

-- each element's bit says whether it is there
pub set_where_there : (text : Texts) (e : Element) → is_set (bitmap_of (fields text)) (element_number e) ≡ is_some (text e)
set_where_there text e =
    let within = number_within e in
    set_number text (element_number e) (omega (arith, within.0)) within.1 ∙ has_text text e

-- ---- the bitmap is one of the type

listed_with : (text : Option (List ℕ)) (e : Element) (ps : List Part) (fs : List Field) (n : ℕ)
    → (is_listed ps (element_number e) ≡ false → text ≡ None)
    → (has_number n (elements_of fs) ≡ true → is_listed ps n ≡ true)
    → has_number n (elements_of (with_field e text fs)) ≡ true → is_listed ps n ≡ true
listed_with None e ps fs n h k there = k there
listed_with (Some text) e ps fs n h k there =
    elim (eqb (element_number e) n) as (λ b. eqb (element_number e) n ≡ b → (b || has_number n (elements_of fs)) ≡ true → is_listed ps n ≡ true) [
      | true ↦ λ same _.
          elim (is_listed ps n) as (λ b. is_listed ps n ≡ b → b ≡ true) [
            | true ↦ λ _. refl
            | false ↦ λ not.
                (let number : element_number e ≡ n = eqb-true (element_number e) n same in
                let none : is_listed ps (element_number e) ≡ false = rw number not in
                let absent : Some text ≡ None = h none in
                absurd cc)
          ] refl
      | false ↦ λ _ others. k others
    ] refl there

listed_among : (text : Texts) (ps : List Part) (es : List Element) (n : ℕ)
    → ((e : Element) → is_listed ps (element_number e) ≡ false → text e ≡ None)
    → has_number n (elements_of (fields_among es text)) ≡ true → is_listed ps n ≡ true
listed_among text ps [] n h there = absurd cc
listed_among text ps (e ∷ es) n h there =
    listed_with (text e) e ps (fields_among es text) n (h e) (listed_among text ps es n h) there

required_element : (ps : List Part) (n : ℕ) → is_required ps n ≡ true → (e : Element) × (element_number e ≡ n)
required_element [] n h = absurd cc
required_element ((true, e, r) ∷ ps) n h =
    elim (eqb (element_number e) n) as (λ b. eqb (element_number e) n ≡ b → (b || is_required ps n) ≡ true → (d : Element) × (element_number d ≡ n)) [
      | true ↦ λ same _. (e, eqb-true (element_number e) n same)
      | false ↦ λ _ others. required_element ps n others
    ] refl h
required_element ((false, e, r) ∷ ps) n h = required_element ps n h

pub form_sound : (t : Mti) (text : Texts) → HasForm (parts_of t) text → presence_at (parts_of t) (bitmap_of (fields text)) ≡ Ok tt
form_sound t text form =
    bitmap_sound t (bitmap_of (fields text)) (
      λ m low high set. listed_among text (parts_of t) elements m form.absent (sym (set_number text m (omega arith) high) ∙ set),
      λ m must.
          (let x = required_element (parts_of t) m must in
          let there : is_some (text x.0) ≡ true = form.required x.0 (subst (λ (n : ℕ). is_required (parts_of t) n ≡ true) (sym x.1) must) in
          subst (λ (n : ℕ). is_set (bitmap_of (fields text)) n ≡ true) x.1 (set_where_there text x.0 ∙ there)),
    )

-- ---- the texts, and the rules

texts-with : (e : Element) (text : Option (List ℕ)) (fs : List Field) → IfSome text (IsText e) → AreTexts fs
    → AreTexts (with_field e text fs)
texts-with e None fs h k = k
texts-with e (Some text) fs h k = (h, k)

texts_among : (text : Texts) (es : List Element) → ((e : Element) → IfSome (text e) (IsText e)) → AreTexts (fields_among es text)
texts_among text [] h = tt
texts_among text (e ∷ es) h = texts-with e (text e) (fields_among es text) (h e) (texts_among text es h)

-- each field has its element's text
abbrev AreOf : Texts → List Field → Type 0
AreOf text fs = AllByRecursion (λ f. text f.0 ≡ Some f.1) fs

of-with : (text : Texts) (e : Element) (one : Option (List ℕ)) (fs : List Field) → text e ≡ one → AreOf text fs
    → AreOf text (with_field e one fs)
of-with text e None fs h k = k
of-with text e (Some one) fs h k = (h, k)

of_among : (text : Texts) (es : List Element) → AreOf text (fields_among es text)
of_among text [] = tt
of_among text (e ∷ es) = of-with text e (text e) (fields_among es text) refl (of_among text es)

rule_by : (text : Texts) (bitmap : ℕ) (rule : Rule) (one : Option (List ℕ))
    → ((e : Element) → is_set bitmap (element_number e) ≡ is_some (text e))
    → rule_at rule bitmap one ≡ rule_of rule (λ e. is_some (text e)) one
rule_by text bitmap Free one h = refl
rule_by text bitmap Scope None h = refl
rule_by text bitmap Scope (Some one) h = rw (h element.OriginalAmount) refl
rule_by text bitmap Verdict None h = refl
rule_by text bitmap Verdict (Some one) h = rw (h element.Approval) refl

abbrev keeps : Texts → Part → Bool
keeps text p = is_ok (rule_of p.2 (λ e. is_some (text e)) (text p.1))

no_rule_of : (rule : Rule) (there : Element → Bool) → rule_of rule there None ≡ Ok tt
no_rule_of Free there = refl
no_rule_of Scope there = refl
no_rule_of Verdict there = refl

right_false : (a b : Bool) → (a || b) ≡ false → b ≡ false
right_false true b h = absurd cc
right_false false b h = h

-- the rules of those that are there are the rules of all
module _ (text : Texts) (bitmap : ℕ) (set : (e : Element) → is_set bitmap (element_number e) ≡ is_some (text e)) where
  rule_first : (p : Part) (ps : List Part) (fs : List Field)
      → ((gs : List Field) → elements_of gs ≡ present bitmap ps → AreOf text gs → are_ruled bitmap (present_parts bitmap ps) gs ≡ list_all (keeps text) ps)
      → elements_of fs ≡ (p.1 ∷ present bitmap ps) → AreOf text fs
      → are_ruled bitmap (p ∷ present_parts bitmap ps) fs ≡ list_all (keeps text) (p ∷ ps)
  rule_first p ps [] others same of = absurd cc
  rule_first p ps (f ∷ fs) others same of =
      let parts = head_is f.0 p.1 (elements_of fs) (present bitmap ps) same in
      let here : text p.1 ≡ Some f.1 = subst (λ (e : Element). text e ≡ Some f.1) parts.0 of.0 in
      let one : is_ok (rule_at p.2 bitmap (Some f.1)) ≡ keeps text p =
      ap is_ok (rule_by text bitmap p.2 (Some f.1) set) ∙ ap (λ (x : Option (List ℕ)). is_ok (rule_of p.2 (λ e. is_some (text e)) x)) (sym here) in
      rw (one, others fs parts.1 of.1) refl

  rules_are : (ps : List Part) (fs : List Field) → elements_of fs ≡ present bitmap ps → AreOf text fs
      → are_ruled bitmap (present_parts bitmap ps) fs ≡ list_all (keeps text) ps
  rules_are [] fs same of = refl
  rules_are (p ∷ ps) fs same of =
      elim (p.0 || is_set bitmap (element_number p.1)) as (λ b. (p.0 || is_set bitmap (element_number p.1)) ≡ b → elements_of fs ≡ cond b (p.1 ∷ present bitmap ps) (present bitmap ps)
      → are_ruled bitmap (cond b (p ∷ present_parts bitmap ps) (present_parts bitmap ps)) fs ≡ list_all (keeps text) (p ∷ ps)) [
        | true ↦ λ _ k. rule_first p ps fs (rules_are ps) k of
        | false ↦ λ e k.
            (let none : text p.1 ≡ None = none_is (text p.1) (sym (set p.1) ∙ right_false p.0 (is_set bitmap (element_number p.1)) e) in
            let one : keeps text p ≡ true = subst (λ (x : Option (List ℕ)). is_ok (rule_of p.2 (λ e. is_some (text e)) x) ≡ true) (sym none) (ap is_ok (no_rule_of p.2 (λ e. is_some (text e)))) in
            rules_are ps fs k of ∙ rw one refl)
      ] refl same

-- texts of a type's form are fields of the type
pub form_fields : (t : Mti) (text : Texts) → HasForm (parts_of t) text → ((e : Element) → IfSome (text e) (IsText e))
    → AreFields t (fields text)
form_fields t text form texts =
    let bitmap = bitmap_of (fields text) in
    let bits : bitmap_of (fields text) ≡ bits_of (elements_of (fields text)) = bitmap_of-elements (fields text) in
    let below : bits_of (elements_of (fields text)) < 2 ^ (128 - 1) = bits_below 1 (elements_of (fields text)) (omega arith) (fields_rise text) in
    let fits : bitmap_of (fields text) < 2 ^ 127 = omega arith in
    let sound = form_sound t text form in
    let same : elements_of (fields text) ≡ present (bitmap_of (fields text)) (parts_of t) =
    same_bits 1 (elements_of (fields text)) (present (bitmap_of (fields text)) (parts_of t)) (fields_rise text) (present_rises (bitmap_of (fields text)) 1 (parts_of t) (rising t)) (sym bits ∙ bitmap_is (parts_of t) (bitmap_of (fields text)) (rising t) fits sound) in
    record {
      texts = texts_among text elements texts;
      elements = same;
      rules = rules_are text (bitmap_of (fields text)) (set_where_there text) (parts_of t) (fields text) same (of_among text elements) ∙ form.ruled;
      fits = fits;
      sound = sound;
    }

-- ---- fields of a type are texts of its form

unset : (set listed : Bool) → (set ≡ true → listed ≡ true) → listed ≡ false → set ≡ false
unset true listed h k = (let yes = h refl in absurd cc)
unset false listed h k = refl

pub unlisted_unset : (t : Mti) (bitmap : ℕ) (e : Element) → presence_at (parts_of t) bitmap ≡ Ok tt
    → is_listed (parts_of t) (element_number e) ≡ false → is_set bitmap (element_number e) ≡ false
unlisted_unset t bitmap e sound h =
    let within = number_within e in
    unset (is_set bitmap (element_number e)) (is_listed (parts_of t) (element_number e)) ((sound_bitmap t bitmap sound).0 (element_number e) (omega (arith, within.0)) within.1) h

fields_form : (t : Mti) (text : Texts) → AreFields t (fields text) → HasForm (parts_of t) text
fields_form t text are = record {
  required = λ e h. sym (set_where_there text e) ∙ (sound_bitmap t (bitmap_of (fields text)) are.sound).1 (element_number e) h;
  absent = λ e h. none_is (text e) (sym (set_where_there text e) ∙ unlisted_unset t (bitmap_of (fields text)) e are.sound h);
  ruled = sym (rules_are text (bitmap_of (fields text)) (set_where_there text) (parts_of t) (fields text) are.elements (of_among text elements)) ∙ are.rules;
}

texts-first : (e : Element) (text : Option (List ℕ)) (fs : List Field) → AreTexts (with_field e text fs)
    → IfSome text (IsText e) × AreTexts fs
texts-first e None fs h = (tt, h)
texts-first e (Some text) fs h = h

known_among : (text : Texts) (es : List Element) → AreTexts (fields_among es text) → AllByRecursion (λ e. IfSome (text e) (IsText e)) es
known_among text [] h = tt
known_among text (e ∷ es) h =
    let parts = texts-first e (text e) (fields_among es text) h in
    (parts.0, known_among text es parts.1)

all_known : (text : Texts) → AreTexts (fields text) → AreKnown text
all_known text h = known_among text elements h

pub each_known : (P : Element → Type 0) → AllByRecursion P elements → (e : Element) → P e
each_known P h element.Pan = h.0
each_known P h _ = assumption h

-- the texts of what is read
pub read_texts : (types : List Mti) (bytes : List ℕ) (t : Mti) (text : Texts) → IsBytes bytes
    → reading types bytes ≡ Ok (t, fields text) → AreTextsOf types t text
read_texts types bytes t text fits h =
    let found = reading_found types bytes (t, fields text) fits h in
    record { among = found.among; form = fields_form t text found.are; known = all_known text found.are.texts }

-- ---- the texts from the fields

abbrev text_in : ℕ → List Field → Option (List ℕ)
text_in n [] = None
text_in n (f ∷ fs) = cond (eqb (element_number f.0) n) (Some f.1) (text_in n fs)

abbrev or_else : Option (List ℕ) → Option (List ℕ) → Option (List ℕ)
or_else None other = other
or_else (Some text) other = Some text

or_none : (text : Option (List ℕ)) → or_else text None ≡ text
or_none None = refl
or_none (Some text) = refl

text_in-with : (n : ℕ) (e : Element) (text : Option (List ℕ)) (fs : List Field)
    → text_in n (with_field e text fs) ≡ cond (eqb (element_number e) n) (or_else text (text_in n fs)) (text_in n fs)
text_in-with n e None fs = elim (eqb (element_number e) n) as (λ b. text_in n fs ≡ cond b (text_in n fs) (text_in n fs)) [ true ↦ refl | false ↦ refl ]
text_in-with n e (Some text) fs = refl

text_again : (text : Texts) (e : Element) → text_in (element_number e) (fields text) ≡ text e
text_again text element.Pan = simp (text_in-with, or_none)
text_again text _ = simp (text_in-with, or_none)

pub same_texts : (x y : Texts) → fields x ≡ fields y → x ≡ y
same_texts x y h =
    fun_ext (λ (e : Element). sym (text_again x e) ∙ (ap (text_in (element_number e)) h ∙ text_again y e))

pub equal_texts : {x y : Texts} → ((e : Element) → x e ≡ y e) → fields x ≡ fields y
equal_texts h = ap fields (fun_ext h)
