-- The first fault inside an element: whose it is, and what an element's own fault is.
use Rattle.std.specs.Prelude.{◌≡◌, ◌≢◌, ◌⊎◌, ℕ, ◌<◌, ◌≤◌, List, [], ◌∷◌, ◌++◌, length, take, drop, filter, IsTrue, IsFalse, codes}
use Rattle.std.specs.List.{flat_map}
use Rattle.iso8583.specs.Number.{number_of}
use Rattle.iso8583.specs.declared.codec_fault.CodecFault.{CodecFault}
use Rattle.iso8583.specs.declared.codec_fault.CodecFault.TheVariants.{Short, Unexpected, Missing, BadLength, BadCharacter, BadValue}
use Rattle.iso_laws.specs.declared.shape.Shape.{Shape}
use Rattle.iso_laws.specs.declared.shape.Shape.TheVariants.{Fixed, UpTo}
use Rattle.iso_laws.specs.declared.rule.Rule.{Rule}
use Rattle.iso_laws.specs.declared.rule.Rule.TheVariants.{Free, Scope, Verdict}
use Rattle.iso_laws.specs.Elements.{element_number, shape_of, class_of, is_of_class, has_value, HasShape, IsText, Part}
use Rattle.iso_laws.specs.Spelling.{Field, field, is_set}
use Rattle.iso_laws.specs.Reading.{is_length}

-- ---- what may be wrong with an element, from its first byte on

-- it ends too soon: in its length, or in its text
abbrev pub EndsTooSoon : Shape → List ℕ → Type 0
EndsTooSoon (Fixed size) bytes = length bytes < size
EndsTooSoon (UpTo min max) bytes = (length bytes < 2) ⊎ ((2 ≤ length bytes) × IsTrue (is_length min max (take 2 bytes)) × (length (drop 2 bytes) < number_of (take 2 bytes)))

-- its length is no number, or outside its bounds
abbrev pub HasWrongLength : Shape → List ℕ → Type 0
HasWrongLength (Fixed size) bytes = ⊥
HasWrongLength (UpTo min max) bytes = (2 ≤ length bytes) × IsFalse (is_length min max (take 2 bytes))

-- the function code of a reversal beside element 30, the action code of an 1110 beside element 38
abbrev pub IsRuled : Rule → ℕ → List ℕ → Type 0
IsRuled Free bitmap text = Unit {0}
IsRuled Scope bitmap text =
    ((text ≡ codes "400") × IsFalse (is_set bitmap 30)) ⊎ ((text ≡ codes "401") × IsTrue (is_set bitmap 30))
IsRuled Verdict bitmap text =
    ((text ≡ codes "000") × IsTrue (is_set bitmap 38)) ⊎ ((text ≢ codes "000") × IsFalse (is_set bitmap 38))

-- neither 400 nor 401, or element 30 too many or missing; element 38 missing from an approval or too many in a decline
abbrev pub BreaksRule : Rule → ℕ → List ℕ → CodecFault → Type 0
BreaksRule Free bitmap text d = ⊥
BreaksRule Scope bitmap text d =
    ((text ≢ codes "400") × (text ≢ codes "401") × (d ≡ BadValue 24))
    ⊎ (((text ≡ codes "400") × IsTrue (is_set bitmap 30) × (d ≡ Unexpected 30)) ⊎ ((text ≡ codes "401") × IsFalse (is_set bitmap 30) × (d ≡ Missing 30)))
BreaksRule Verdict bitmap text d =
    ((text ≡ codes "000") × IsFalse (is_set bitmap 38) × (d ≡ Missing 38)) ⊎ ((text ≢ codes "000") × IsTrue (is_set bitmap 38) × (d ≡ Unexpected 38))

-- a text of its length with a byte outside its class; of its class with a wrong value; or one that breaks a rule
abbrev pub IsWrongText : ℕ → Part → List ℕ → CodecFault → Type 0
IsWrongText bitmap p text d =
    (IsFalse (is_of_class (class_of p.1) text) × (d ≡ BadCharacter (element_number p.1)))
    ⊎ ((IsTrue (is_of_class (class_of p.1) text) × IsFalse (has_value p.1 text) × (d ≡ BadValue (element_number p.1)))
    ⊎ (IsTrue (is_of_class (class_of p.1) text) × IsTrue (has_value p.1 text) × BreaksRule p.2 bitmap text d))

-- the fault of an element, from its first byte on
abbrev pub IsFaultOf : ℕ → Part → List ℕ → CodecFault → Type 0
IsFaultOf bitmap p bytes d =
    (EndsTooSoon (shape_of p.1) bytes × (d ≡ Short (element_number p.1)))
    ⊎ ((HasWrongLength (shape_of p.1) bytes × (d ≡ BadLength (element_number p.1)))
    ⊎ ((text : List ℕ) × (rest : List ℕ) × (bytes ≡ field (p.1, text) ++ rest) × HasShape (shape_of p.1) text × IsWrongText bitmap p text d))

-- ---- which element it is

-- the elements of a type that a bitmap says are there, in rising number
abbrev pub those_there : ℕ → List Part → List Part
those_there bitmap parts = filter (λ p. is_set bitmap (element_number p.1)) parts

-- each element has a text of its own, and keeps its rule
abbrev pub AreRight : ℕ → List Part → List Field → Type 0
AreRight bitmap [] [] = Unit {0}
AreRight bitmap [] (f ∷ fs) = ⊥
AreRight bitmap (p ∷ ps) [] = ⊥
AreRight bitmap (p ∷ ps) (f ∷ fs) = (f.0 ≡ p.1) × IsText f.0 f.1 × IsRuled p.2 bitmap f.1 × AreRight bitmap ps fs

-- some elements are right, and behind them the next one has the fault
abbrev pub IsFirstWrong : ℕ → List Part → List ℕ → CodecFault → Type 0
IsFirstWrong bitmap there bytes d =
    (before : List Part) × (p : Part) × (after : List Part) × (fields : List Field) × (behind : List ℕ)
    × (there ≡ before ++ (p ∷ after)) × AreRight bitmap before fields × (bytes ≡ flat_map field fields ++ behind) × IsFaultOf bitmap p behind d
