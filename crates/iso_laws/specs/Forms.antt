-- Which texts a message or a reply of a type has.
use Rattle.std.specs.Prelude.{◌≡◌, List, None, IsSome, is_some, is_ok, IfSome, IsTrue, IsFalse}
use Rattle.std.specs.List.{list_all, AllByRecursion}
use Rattle.iso_laws.specs.declared.element.Element.{Element}
use Rattle.iso_laws.specs.declared.mti.Mti.{Mti}
use Rattle.iso_laws.specs.Elements.{elements, element_number, IsText, Part, parts_of}
use Rattle.iso_laws.specs.Types.{is_among}
use Rattle.iso_laws.specs.Spelling.{Texts}
use Rattle.iso_laws.specs.Reading.{is_listed, is_required, rule_of}

-- each element that messages of the type must have is there, none is that they may not have, and the rules find no fault
pub record HasForm (parts : List Part) (text : Texts) : Type 0 where
  pub required : (e : Element) → IsTrue (is_required parts (element_number e)) → IsSome (text e)
  pub absent : (e : Element) → IsFalse (is_listed parts (element_number e)) → text e ≡ None
  pub ruled : IsTrue (list_all (λ p. is_ok (rule_of p.2 (λ e. is_some (text e)) (text p.1))) parts)

-- each text that is there is one that its element can have
abbrev pub AreKnown : Texts → Type 0
AreKnown text = AllByRecursion (λ e. IfSome (text e) (IsText e)) elements

-- the texts of a message or a reply of one of these types
pub record AreTextsOf (types : List Mti) (t : Mti) (text : Texts) : Type 0 where
  pub among : IsTrue (is_among types t)
  pub form : HasForm (parts_of t) text
  pub known : AreKnown text
