-- The message types of ISO 8583:1993 that this profile uses.
use Rattle.std.specs.Prelude.{ℕ, ◌+◌, ◌-◌, ◌^◌, Bool, List, [], ◌∷◌, map, filter, codes}
use Rattle.std.specs.List.{list_any}
use Rattle.std.specs.Str.{bytes_eq}
use Rattle.iso_laws.specs.declared.element.Element.{Element}
use Rattle.iso_laws.specs.Elements.{element_number, parts_of}
use Rattle.iso_laws.specs.declared.mti.Mti.{Mti}
use Rattle.iso_laws.specs.declared.mti.Mti.TheVariants as mti

-- the four digits of each type
abbrev pub mti_text : Mti → List ℕ
mti_text mti.Request = codes "1100"
mti_text mti.RequestRepeat = codes "1101"
mti_text mti.RequestReply = codes "1110"
mti_text mti.Advice = codes "1120"
mti_text mti.AdviceRepeat = codes "1121"
mti_text mti.AdviceReply = codes "1130"
mti_text mti.Reversal = codes "1420"
mti_text mti.ReversalRepeat = codes "1421"
mti_text mti.ReversalReply = codes "1430"

-- the types that are read as messages
abbrev pub taken_in : List Mti
taken_in = mti.Request ∷ mti.RequestRepeat ∷ mti.Advice ∷ mti.AdviceRepeat ∷ mti.Reversal ∷ mti.ReversalRepeat ∷ []

-- the types that are read as replies
abbrev pub given_out : List Mti
given_out = mti.RequestReply ∷ mti.AdviceReply ∷ mti.ReversalReply ∷ []

-- whether a type is one of these
abbrev pub is_among : List Mti → Mti → Bool
is_among types t = list_any (λ u. bytes_eq (mti_text u) (mti_text t)) types

-- the bits of elements, each that of its number in a bitmap of 128, of which bit 1 is the highest
abbrev pub bits_of : List Element → ℕ
bits_of [] = 0
bits_of (e ∷ es) = 2 ^ (128 - element_number e) + bits_of es

-- the elements that a message of the type may have, as bits
abbrev pub may_have : Mti → ℕ
may_have t = bits_of (map (λ p. p.1) (parts_of t))

-- the elements that each message of the type has, as bits
abbrev pub must_have : Mti → ℕ
must_have t = bits_of (map (λ p. p.1) (filter (λ p. p.0) (parts_of t)))
