-- How a message is spelled: its type, its bitmap, and its elements in rising number (ISO 8583:1993).
use Rattle.std.specs.Prelude.{ℕ, ◌+◌, ◌-◌, ◌/◌, ◌%◌, ◌^◌, Bool, ◌==◌, List, [], ◌∷◌, ◌++◌, length, Option, Some, None, if◌then◌else◌}
use Rattle.std.specs.List.{flat_map}
use Rattle.std.specs.Int.{w64, to_be_bytes, bit_at}
use Rattle.iso8583.specs.Number.{fixed_digits}
use Rattle.iso_laws.specs.declared.element.Element.{Element}
use Rattle.iso_laws.specs.declared.shape.Shape.{Shape}
use Rattle.iso_laws.specs.declared.shape.Shape.TheVariants.{Fixed, UpTo}
use Rattle.iso_laws.specs.declared.mti.Mti.{Mti}
use Rattle.iso_laws.specs.Elements.{element_number, shape_of, elements}
use Rattle.iso_laws.specs.Types.{mti_text}

-- an element and its text
abbrev pub Field : Type 0
Field = Element × List ℕ

-- an element in front of others, if it is there
abbrev pub with_field : Element → Option (List ℕ) → List Field → List Field
with_field e None fields = fields
with_field e (Some text) fields = (e, text) ∷ fields

-- two digits of length where the length may vary
abbrev pub length_prefix : Shape → List ℕ → List ℕ
length_prefix (Fixed size) text = []
length_prefix (UpTo min max) text = fixed_digits 2 (length text)

-- the texts of elements, of those that are there
abbrev pub Texts : Type 0
Texts = Element → Option (List ℕ)

-- the text of an element, none where it is absent
abbrev pub text_or_none : Option (List ℕ) → List ℕ
text_or_none None = []
text_or_none (Some text) = text

-- those of these elements that are there
abbrev pub fields_among : List Element → Texts → List Field
fields_among [] text = []
fields_among (e ∷ es) text = with_field e (text e) (fields_among es text)

-- the elements that are there, in rising number
abbrev pub fields : Texts → List Field
fields text = fields_among elements text

-- the spelling of one element: its text, behind its length where that may vary
abbrev pub field : Field → List ℕ
field f = length_prefix (shape_of f.0) f.1 ++ f.1

-- element n has bit n of a bitmap, of which bit 1 is the highest of 128
abbrev pub is_set : ℕ → ℕ → Bool
is_set bitmap n = bit_at bitmap (128 - n) == 1

-- the bits of the elements that are there, and no others
abbrev pub bitmap_of : List Field → ℕ
bitmap_of [] = 0
bitmap_of (f ∷ fields) = 2 ^ (128 - element_number f.0) + bitmap_of fields

-- elements 2 to 64 in eight bytes; where one of 65 to 128 is there, bit 1 is set and eight more bytes follow for these
unfoldable pub bitmap_bytes : ℕ → List ℕ
bitmap_bytes bitmap =
    if bitmap % 2 ^ 64 == 0 then to_be_bytes w64 (bitmap / 2 ^ 64)
    else to_be_bytes w64 (2 ^ 63 + bitmap / 2 ^ 64) ++ to_be_bytes w64 (bitmap % 2 ^ 64)

-- four digits of type, the bytes of the bitmap, and the elements
abbrev pub spelling : Mti → List Field → List ℕ
spelling mti fields = mti_text mti ++ bitmap_bytes (bitmap_of fields) ++ flat_map field fields
