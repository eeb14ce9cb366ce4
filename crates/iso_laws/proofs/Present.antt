-- The elements that a bitmap says are there, and the fields that are read by it.
use Rattle.std.proofs.Common.{◌≡◌, ℕ, Bool, true, false, cond, List, [], ◌∷◌, ◌++◌, Option, Some, None, Result, Ok, Err, refl, sym, ap, subst, ◌∙◌, append_assoc}
use Rattle.std.proofs.lemmas.Bool.{and_parts}
use Rattle.std.specs.Prelude.{◌||◌, map, is_ok, ◌&&◌}
use Rattle.std.specs.List.{flat_map, AllByRecursion}
use Rattle.iso8583.specs.declared.codec_fault.CodecFault.{CodecFault}
use Rattle.iso_laws.specs.declared.element.Element.{Element}
use Rattle.iso_laws.specs.Elements.{element_number, IsText, Part}
use Rattle.iso_laws.specs.declared.rule.Rule.{Rule}
use Rattle.iso_laws.specs.declared.rule.Rule.TheVariants.{Free, Scope, Verdict}
use Rattle.iso_laws.specs.Spelling.{Field, field, with_field, is_set}
use Rattle.iso_laws.specs.Reading.{◌>>=◌, element_at, optional_at, rule_at, with_first, fields_at}
use Rattle.iso_laws.proofs.Elements.{bind_ok, element_taken, element_again}

-- the elements among these parts that are there
abbrev pub present : ℕ → List Part → List Element
present bitmap [] = []
present bitmap (p ∷ ps) = cond (p.0 || is_set bitmap (element_number p.1)) (p.1 ∷ present bitmap ps) (present bitmap ps)

-- the same with all that is known of them
abbrev pub present_parts : ℕ → List Part → List Part
present_parts bitmap [] = []
present_parts bitmap (p ∷ ps) = cond (p.0 || is_set bitmap (element_number p.1)) (p ∷ present_parts bitmap ps) (present_parts bitmap ps)

-- no rule of the parts finds a fault in the fields
abbrev pub are_ruled : ℕ → List Part → List Field → Bool
are_ruled bitmap [] fields = true
are_ruled bitmap (p ∷ ps) [] = true
are_ruled bitmap (p ∷ ps) (f ∷ fs) = is_ok (rule_at p.2 bitmap (Some f.1)) && are_ruled bitmap ps fs

abbrev pub elements_of : List Field → List Element
elements_of fields = map (λ f. f.0) fields

abbrev pub AreTexts : List Field → Type 0
AreTexts fields = AllByRecursion (λ f. IsText f.0 f.1) fields

-- what was read of some parts
pub record Taken (bitmap : ℕ) (ps : List Part) (bytes : List ℕ) (fields : List Field) (rest : List ℕ) : Type 0 where
  pub spelled : bytes ≡ flat_map field fields ++ rest
  pub texts : AreTexts fields
  pub elements : elements_of fields ≡ present bitmap ps
  pub rules : are_ruled bitmap (present_parts bitmap ps) fields ≡ true

abbrev Read : Type 0
Read = Result (List Field × List ℕ) CodecFault

abbrev done : List Field × List ℕ → Read
done x = Ok x

first_ok : (e : Element) (text : Option (List ℕ)) (read : Read) (y : List Field × List ℕ) → with_first e text read ≡ Ok y → (x : List Field × List ℕ) × (read ≡ Ok x) × ((with_field e text x.0, x.1) ≡ y)
first_ok e text (Ok x) y h = (x, refl, cc)
first_ok e text (Err f) y h = absurd cc

taken_here : (bitmap : ℕ) (p : Part) (ps : List Part) (bytes text mid : List ℕ) (fields : List Field) (rest : List ℕ)
    → (p.0 || is_set bitmap (element_number p.1)) ≡ true → (bytes ≡ field (p.1, text) ++ mid) × IsText p.1 text → is_ok (rule_at p.2 bitmap (Some text)) ≡ true → Taken bitmap ps mid fields rest → Taken bitmap (p ∷ ps) bytes ((p.1, text) ∷ fields) rest
taken_here bitmap p ps bytes text mid fields rest there one rule others = record {
  spelled = one.0 ∙ (ap (λ (x : List ℕ). field (p.1, text) ++ x) others.spelled ∙ sym (append_assoc (field (p.1, text)) (flat_map field fields) rest));
  texts = (one.1, others.texts);
  elements = rw there (ap (λ (es : List Element). p.1 ∷ es) others.elements);
  rules = rw (there, rule) others.rules;
}

taken_along : (bitmap : ℕ) (ps : List Part) (bytes : List ℕ) (x y : List Field × List ℕ) → x ≡ y → Taken bitmap ps bytes x.0 x.1 → Taken bitmap ps bytes y.0 y.1
taken_along bitmap ps bytes x y e h = subst (λ (z : List Field × List ℕ). Taken bitmap ps bytes z.0 z.1) e h

abbrev OptionalRead : Type 0
OptionalRead = Result (Option (List ℕ) × List ℕ) CodecFault

-- the text of an element that is there
pub some_read : (e : Element) (bytes : List ℕ) (x : Option (List ℕ) × List ℕ) → optional_at true e bytes ≡ Ok x → (y : List ℕ × List ℕ) × (element_at e bytes ≡ Ok y) × ((Some y.0, y.1) ≡ x)
unfolding optional_at
some_read e bytes x h =
    let b = bind_ok (element_at e bytes) (λ y. let r : OptionalRead = Ok (Some y.0, y.1) in r) x h in
    (b.0, b.1, cc)

none_read : (e : Element) (bytes : List ℕ) (x : Option (List ℕ) × List ℕ) → optional_at false e bytes ≡ Ok x → (None, bytes) ≡ x
unfolding optional_at
none_read e bytes x h = cc

-- the rule found no fault
rule_read : {B : Type 0} (rule : Result (Unit {0}) CodecFault) (next : Result B CodecFault) (y : B) → (rule >>= λ _. next) ≡ Ok y → (is_ok rule ≡ true) × (next ≡ Ok y)
rule_read (Ok u) next y h = (refl, h)
rule_read (Err e) next y h = absurd cc

taken_step : (bitmap : ℕ) (p : Part) (ps : List Part) (bytes : List ℕ) (y : List Field × List ℕ) (there : Bool)
    → ((mid : List ℕ) (z : List Field × List ℕ) → fields_at bitmap ps mid ≡ Ok z → Taken bitmap ps mid z.0 z.1)
    → (p.0 || is_set bitmap (element_number p.1)) ≡ there → (optional_at there p.1 bytes >>= λ x. rule_at p.2 bitmap x.0 >>= λ _. with_first p.1 x.0 (fields_at bitmap ps x.1)) ≡ Ok y → Taken bitmap (p ∷ ps) bytes y.0 y.1
taken_step bitmap p ps bytes y true others here h =
    let b = bind_ok (optional_at true p.1 bytes) (λ x. rule_at p.2 bitmap x.0 >>= λ _. with_first p.1 x.0 (fields_at bitmap ps x.1)) y h in
    let s = some_read p.1 bytes b.0 b.1 in
    let text = s.0.0 in
    let mid = s.0.1 in
    let one = element_taken p.1 bytes text mid s.1 in
    let after : (rule_at p.2 bitmap (Some text) >>= λ _. with_first p.1 (Some text) (fields_at bitmap ps mid)) ≡ Ok y =
    subst (λ (x : Option (List ℕ) × List ℕ). (rule_at p.2 bitmap x.0 >>= λ _. with_first p.1 x.0 (fields_at bitmap ps x.1)) ≡ Ok y) (sym s.2) b.2 in
    let read = rule_read (rule_at p.2 bitmap (Some text)) (with_first p.1 (Some text) (fields_at bitmap ps mid)) y after in
    let f = first_ok p.1 (Some text) (fields_at bitmap ps mid) y read.1 in
    let whole : Taken bitmap (p ∷ ps) bytes ((p.1, text) ∷ f.0.0) f.0.1 = taken_here bitmap p ps bytes text mid f.0.0 f.0.1 here one read.0 (others mid f.0 f.1) in
    taken_along bitmap (p ∷ ps) bytes ((p.1, text) ∷ f.0.0, f.0.1) y f.2 whole
taken_step bitmap p ps bytes y false others here h =
    let b = bind_ok (optional_at false p.1 bytes) (λ x. rule_at p.2 bitmap x.0 >>= λ _. with_first p.1 x.0 (fields_at bitmap ps x.1)) y h in
    let s = none_read p.1 bytes b.0 b.1 in
    let after : (rule_at p.2 bitmap None >>= λ _. with_first p.1 None (fields_at bitmap ps bytes)) ≡ Ok y =
    subst (λ (x : Option (List ℕ) × List ℕ). (rule_at p.2 bitmap x.0 >>= λ _. with_first p.1 x.0 (fields_at bitmap ps x.1)) ≡ Ok y) (sym s) b.2 in
    let read = rule_read (rule_at p.2 bitmap None) (with_first p.1 None (fields_at bitmap ps bytes)) y after in
    let f = first_ok p.1 None (fields_at bitmap ps bytes) y read.1 in
    let rest = others bytes f.0 f.1 in
    let whole : Taken bitmap (p ∷ ps) bytes f.0.0 f.0.1 = record { spelled = rest.spelled; texts = rest.texts; elements = rw here rest.elements; rules = rw here rest.rules } in
    taken_along bitmap (p ∷ ps) bytes f.0 y f.2 whole

-- what is read is spelled so
pub fields_taken : (bitmap : ℕ) (ps : List Part) (bytes : List ℕ) (y : List Field × List ℕ) → fields_at bitmap ps bytes ≡ Ok y → Taken bitmap ps bytes y.0 y.1
unfolding fields_at
fields_taken bitmap [] bytes y h =
    let same : ([], bytes) ≡ y = cc in
    subst (λ (z : List Field × List ℕ). Taken bitmap [] bytes z.0 z.1) same (record { spelled = refl; texts = tt; elements = refl; rules = refl })
fields_taken bitmap (p ∷ ps) bytes y h =
    taken_step bitmap p ps bytes y (p.0 || is_set bitmap (element_number p.1)) (λ mid z k. fields_taken bitmap ps mid z k) refl h

-- the same element in front
pub head_is : (e d : Element) (es ds : List Element) → (e ∷ es) ≡ (d ∷ ds) → (e ≡ d) × (es ≡ ds)
head_is e d es ds h = (cc, cc)

pub some_again : (e : Element) (text rest : List ℕ) → IsText e text → optional_at true e (field (e, text) ++ rest) ≡ Ok (Some text, rest)
unfolding optional_at
some_again e text rest h = rw (element_again e text rest h) refl

pub none_again : (e : Element) (rest : List ℕ) → optional_at false e rest ≡ Ok (None, rest)
unfolding optional_at
none_again e rest = refl

-- a rule finds nothing in an element that is not there
pub no_rule : (rule : Rule) (bitmap : ℕ) → rule_at rule bitmap None ≡ Ok tt
no_rule Free bitmap = refl
no_rule Scope bitmap = refl
no_rule Verdict bitmap = refl

pub rule_ok : (rule : Result (Unit {0}) CodecFault) → is_ok rule ≡ true → rule ≡ Ok tt
rule_ok (Ok u) h = refl
rule_ok (Err e) h = absurd cc

again_step : (bitmap : ℕ) (p : Part) (ps : List Part) (fields : List Field) (rest : List ℕ) (there : Bool)
    → ((gs : List Field) → elements_of gs ≡ present bitmap ps → AreTexts gs → are_ruled bitmap (present_parts bitmap ps) gs ≡ true → fields_at bitmap ps (flat_map field gs ++ rest) ≡ Ok (gs, rest))
    → elements_of fields ≡ cond there (p.1 ∷ present bitmap ps) (present bitmap ps) → AreTexts fields
    → are_ruled bitmap (cond there (p ∷ present_parts bitmap ps) (present_parts bitmap ps)) fields ≡ true
    → (optional_at there p.1 (flat_map field fields ++ rest) >>= λ x. rule_at p.2 bitmap x.0 >>= λ _. with_first p.1 x.0 (fields_at bitmap ps x.1)) ≡ Ok (fields, rest)
again_step bitmap p ps fields rest false others same texts rules =
    rw (none_again p.1 (flat_map field fields ++ rest), no_rule p.2 bitmap, others fields same texts rules) refl
again_step bitmap p ps [] rest true others same texts rules = absurd cc
again_step bitmap p ps (f ∷ fs) rest true others same texts rules =
    let ruled = and_parts (is_ok (rule_at p.2 bitmap (Some f.1))) (are_ruled bitmap (present_parts bitmap ps) fs) rules in
    let passed : rule_at p.2 bitmap (Some f.1) ≡ Ok tt = rule_ok (rule_at p.2 bitmap (Some f.1)) ruled.0 in
    let parts = head_is f.0 p.1 (elements_of fs) (present bitmap ps) same in
    let one : optional_at true p.1 (field (f.0, f.1) ++ (flat_map field fs ++ rest)) ≡ Ok (Some f.1, flat_map field fs ++ rest) =
    subst (λ (e : Element). optional_at true e (field (f.0, f.1) ++ (flat_map field fs ++ rest)) ≡ Ok (Some f.1, flat_map field fs ++ rest)) parts.0 (some_again f.0 f.1 (flat_map field fs ++ rest) texts.0) in
    rw (append_assoc (field f) (flat_map field fs) rest, one, passed, others fs parts.1 texts.1 ruled.1, ← parts.0) refl

-- what is spelled so is read
pub fields_again : (bitmap : ℕ) (ps : List Part) (fields : List Field) (rest : List ℕ) → elements_of fields ≡ present bitmap ps → AreTexts fields → are_ruled bitmap (present_parts bitmap ps) fields ≡ true → fields_at bitmap ps (flat_map field fields ++ rest) ≡ Ok (fields, rest)
unfolding fields_at
fields_again bitmap [] [] rest same texts rules = refl
fields_again bitmap [] (f ∷ fs) rest same texts rules = absurd cc
fields_again bitmap (p ∷ ps) fields rest same texts rules =
    again_step bitmap p ps fields rest (p.0 || is_set bitmap (element_number p.1)) (λ gs s t r. fields_again bitmap ps gs rest s t r) same texts rules
