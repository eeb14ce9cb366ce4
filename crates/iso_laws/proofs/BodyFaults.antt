-- The faults that reading the elements can have: the others are those of the type and the bitmap.
use Rattle.std.proofs.Common.{◌≡◌, ◌≢◌, ap, ℕ, Bool, true, false, cond, List, [], ◌∷◌, length, eqb, ltb, Option, Some, None, Result, Ok, Err, refl, sym, ◌∙◌}
use Rattle.std.specs.Prelude.{◌||◌, not, IfErr, codes}
use Rattle.std.specs.List.{list_any}
use Rattle.std.specs.Str.{bytes_eq}
use Rattle.std.proofs.lemmas.Bool.{or_left, or_right, not_from_false}
use Rattle.iso8583.specs.Number.{number_of}
use Rattle.iso8583.specs.declared.codec_fault.CodecFault.{CodecFault}
use Rattle.iso8583.specs.declared.codec_fault.CodecFault.TheVariants.{Short, BadMti, SecondaryBitmap, Unexpected, Missing, BadLength, BadCharacter, Trailing, BadValue, OutOfMemory}
use Rattle.iso_laws.specs.declared.element.Element.{Element}
use Rattle.iso_laws.specs.declared.element.Element.TheVariants as element
use Rattle.iso_laws.specs.declared.shape.Shape.{Shape}
use Rattle.iso_laws.specs.declared.shape.Shape.TheVariants.{Fixed, UpTo}
use Rattle.iso_laws.specs.declared.rule.Rule.{Rule}
use Rattle.iso_laws.specs.declared.rule.Rule.TheVariants.{Free, Scope, Verdict}
use Rattle.iso_laws.specs.Elements.{element_number, shape_of, class_of, is_of_class, has_value, Part}
use Rattle.iso_laws.specs.Spelling.{Field, is_set}
use Rattle.iso_laws.specs.Reading.{◌>>=◌, bytes_at, is_length, shaped_at, element_at, optional_at, scope_at, verdict_at, rule_at, with_first, fields_at, whole_at}

-- ---- a fault that is one of some

pub then_holds : {A B : Type 0} (P : CodecFault → Type 0) (r : Result A CodecFault) (f : A → Result B CodecFault) → IfErr r P → ((x : A) → IfErr (f x) P) → IfErr (r >>= f) P
then_holds P (Ok x) f h k = k x
then_holds P (Err e) f h k = h

pub either_holds : {A : Type 0} (P : CodecFault → Type 0) (b : Bool) (r s : Result A CodecFault) → IfErr r P → IfErr s P → IfErr (cond b r s) P
either_holds P true r s h k = h
either_holds P false r s h k = k

other_holds : {A : Type 0} (P Q : CodecFault → Type 0) (r : Result A CodecFault) → ((d : CodecFault) → P d → Q d) → IfErr r P → IfErr r Q
other_holds P Q (Ok x) h k = tt
other_holds P Q (Err d) h k = h d k

-- ---- the faults of elements, where rules name some numbers, and of what is behind them

abbrev pub is_body_fault : Bool → (ℕ → Bool) → CodecFault → Bool
is_body_fault end named (Short n) = not (eqb n 0)
is_body_fault end named BadMti = false
is_body_fault end named SecondaryBitmap = false
is_body_fault end named (Unexpected n) = named n
is_body_fault end named (Missing n) = named n
is_body_fault end named (BadLength n) = true
is_body_fault end named (BadCharacter n) = true
is_body_fault end named Trailing = end
is_body_fault end named (BadValue n) = true
is_body_fault end named OutOfMemory = false

-- no element has number 0
numbered : (e : Element) → eqb (element_number e) 0 ≡ false
numbered element.Pan = refl
numbered _ = refl

-- element 30 or 38
abbrev names : Rule → ℕ → Bool
names Free n = false
names Scope n = eqb 30 n
names Verdict n = eqb 38 n

abbrev pub is_named : List Part → ℕ → Bool
is_named ps n = list_any (λ p. names p.2 n) ps

module _ (end : Bool) (named : ℕ → Bool) where
  abbrev pub IsBody : CodecFault → Type 0
  IsBody d = is_body_fault end named d ≡ true

  bytes_faults : (n size : ℕ) (bytes : List ℕ) → eqb n 0 ≡ false → IfErr (bytes_at n size bytes) IsBody
  bytes_faults n size bytes h = either_holds IsBody (ltb (length bytes) size) _ _ (not_from_false (eqb n 0) h) tt

  shaped_faults : (n : ℕ) (shape : Shape) (bytes : List ℕ) → eqb n 0 ≡ false → IfErr (shaped_at n shape bytes) IsBody
  unfolding shaped_at
  shaped_faults n (Fixed size) bytes h = bytes_faults n size bytes h
  shaped_faults n (UpTo min max) bytes h =
      then_holds IsBody (bytes_at n 2 bytes) _ (bytes_faults n 2 bytes h) (λ x. either_holds IsBody (is_length min max x.0) _ _ (bytes_faults n (number_of x.0) x.1 h) refl)

  element_faults : (e : Element) (bytes : List ℕ) → IfErr (element_at e bytes) IsBody
  unfolding element_at
  element_faults e bytes =
      then_holds IsBody (shaped_at (element_number e) (shape_of e) bytes) _ (shaped_faults (element_number e) (shape_of e) bytes (numbered e)) (λ x.
      either_holds IsBody (not (is_of_class (class_of e) x.0)) _ _ refl (either_holds IsBody (has_value e x.0) _ _ tt refl))

  optional_faults : (there : Bool) (e : Element) (bytes : List ℕ) → IfErr (optional_at there e bytes) IsBody
  unfolding optional_at
  optional_faults false e bytes = tt
  optional_faults true e bytes = then_holds IsBody (element_at e bytes) _ (element_faults e bytes) (λ x. tt)

  scope_faults : (there : Bool) (text : List ℕ) → named 30 ≡ true → IfErr (scope_at there text) IsBody
  unfolding scope_at
  scope_faults there text h =
      either_holds IsBody (bytes_eq text (codes "400")) _ _ (either_holds IsBody there _ _ h tt) (either_holds IsBody (bytes_eq text (codes "401")) _ _ (either_holds IsBody there _ _ tt h) refl)

  verdict_faults : (there : Bool) (text : List ℕ) → named 38 ≡ true → IfErr (verdict_at there text) IsBody
  unfolding verdict_at
  verdict_faults there text h =
      either_holds IsBody (bytes_eq text (codes "000")) _ _ (either_holds IsBody there _ _ tt h) (either_holds IsBody there _ _ h tt)

  rule_faults : (rule : Rule) (bitmap : ℕ) (text : Option (List ℕ)) → ((n : ℕ) → names rule n ≡ true → named n ≡ true) → IfErr (rule_at rule bitmap text) IsBody
  rule_faults Free bitmap text h = tt
  rule_faults Scope bitmap None h = tt
  rule_faults Scope bitmap (Some text) h = scope_faults (is_set bitmap 30) text (h 30 refl)
  rule_faults Verdict bitmap None h = tt
  rule_faults Verdict bitmap (Some text) h = verdict_faults (is_set bitmap 38) text (h 38 refl)

  first_faults : (e : Element) (text : Option (List ℕ)) (r : Result (List Field × List ℕ) CodecFault) → IfErr r IsBody → IfErr (with_first e text r) IsBody
  first_faults e text (Ok x) h = tt
  first_faults e text (Err f) h = h

  pub fields_faults : (bitmap : ℕ) (ps : List Part) (bytes : List ℕ) → ((n : ℕ) → is_named ps n ≡ true → named n ≡ true) → IfErr (fields_at bitmap ps bytes) IsBody
  unfolding fields_at
  fields_faults bitmap [] bytes h = tt
  fields_faults bitmap (p ∷ ps) bytes h =
      then_holds IsBody (optional_at (p.0 || is_set bitmap (element_number p.1)) p.1 bytes) _ (optional_faults (p.0 || is_set bitmap (element_number p.1)) p.1 bytes) (λ x.
      then_holds IsBody (rule_at p.2 bitmap x.0) _ (rule_faults p.2 bitmap x.0 (λ n k. h n (or_left (names p.2 n) (is_named ps n) k))) (λ _.
      first_faults p.1 x.0 (fields_at bitmap ps x.1) (fields_faults bitmap ps x.1 (λ n k. h n (or_right (names p.2 n) (is_named ps n) k)))))

pub whole_faults : (bitmap : ℕ) (ps : List Part) (bytes : List ℕ) → IfErr (whole_at bitmap ps bytes) (IsBody true (is_named ps))
unfolding whole_at
whole_faults bitmap ps bytes =
    then_holds (IsBody true (is_named ps)) (fields_at bitmap ps bytes) _ (fields_faults true (is_named ps) bitmap ps bytes (λ n k. k)) (λ x.
    either_holds (IsBody true (is_named ps)) (eqb (length x.1) 0) _ _ tt refl)

-- a fault that is none of these
pub whole_never : (bitmap : ℕ) (ps : List Part) (bytes : List ℕ) (f : CodecFault) → is_body_fault true (is_named ps) f ≡ false → IfErr (whole_at bitmap ps bytes) (λ d. d ≢ f)
whole_never bitmap ps bytes f never =
    other_holds (IsBody true (is_named ps)) (λ d. d ≢ f) (whole_at bitmap ps bytes) (λ d h e.
    let body : is_body_fault true (is_named ps) f ≡ true = ap (is_body_fault true (is_named ps)) (sym e) ∙ h in
    absurd cc) (whole_faults bitmap ps bytes)
