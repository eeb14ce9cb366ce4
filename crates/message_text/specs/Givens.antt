-- What words give: elements and their texts.
use Rattle.std.specs.Prelude.{◌≡◌, ◌≢◌, ⊤, ℕ, List, [], ◌∷◌, ◌++◌, Some, None, ◌==◌, if◌then◌else◌}
use Rattle.std.specs.List.{AllByRecursion, AllZip}
use Rattle.iso_laws.specs.Elements.{IsText, element_number}
use Rattle.iso_laws.specs.Spelling.{Texts}
use Rattle.iso_laws.specs.declared.element.Element.{Element}
use Rattle.message_text.specs.Names.{element_named}
use Rattle.message_text.specs.Texts.{text_of}
use Rattle.message_text.specs.declared.given.Given.{Given}

-- the texts of the elements that are given
abbrev pub texts_of : List Given → Texts
texts_of [] e = None
texts_of (g ∷ gs) e = if element_number g.element == element_number e then Some g.text.items else texts_of gs e

-- the word is a name and a value, with the first `=`, 61, between them
pub record IsPair (word name value : List ℕ) : Type 0 where
  pub parts : word ≡ name ++ 61 ∷ value
  pub first : AllByRecursion (λ c. c ≢ 61) name

-- the word gives this element the text that its value stands for, one that the element can have
pub record IsGivenBy (word : List ℕ) (given : Given) : Type 0 where
  pub name : List ℕ
  pub value : List ℕ
  pub pair : IsPair word name value
  pub named : element_named name ≡ Some given.element
  pub text : given.text.items ≡ text_of given.element value
  pub can : IsText given.element given.text.items

-- no element is given twice
abbrev pub EachOnce : List Given → Type 0
EachOnce [] = ⊤
EachOnce (g ∷ gs) = (texts_of gs g.element ≡ None) × EachOnce gs

-- each word gives its element, and none is given twice
abbrev pub AreGiven : List (List ℕ) → List Given → Type 0
AreGiven words givens = AllZip IsGivenBy words givens × EachOnce givens

-- the word is no pair, or its name is no element's
abbrev pub NamesNone : List ℕ → Type 0
NamesNone word = (name value : List ℕ) → IsPair word name value → element_named name ≡ None

-- the word names this element, which can't have the text that its value stands for
abbrev pub HasWrongValue : List ℕ → Element → Type 0
HasWrongValue word e =
    (name : List ℕ) × (value : List ℕ) × IsPair word name value × (element_named name ≡ Some e) × ¬ IsText e (text_of e value)
