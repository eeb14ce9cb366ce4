-- Reading a message from left to right, with the first fault that is met.
use Rattle.std.specs.Prelude.{◌≡◌, ℕ, zero, suc, ◌+◌, ◌-◌, ◌*◌, ◌^◌, Bool, true, false, ◌&&◌, ◌||◌, not, List, [], ◌∷◌, length, take, drop, Option, Some, None, Result, Ok, Err, nat_lt, nat_le, ◌==◌, if◌then◌else◌, codes}
use Rattle.std.specs.Int.{w64, from_be_bytes}
use Rattle.std.specs.List.{list_any}
use Rattle.std.specs.Str.{bytes_eq}
use Rattle.iso8583.specs.Class.{is_digits}
use Rattle.iso8583.specs.Number.{number_of}
use Rattle.iso8583.specs.declared.codec_fault.CodecFault.{CodecFault}
use Rattle.iso8583.specs.declared.codec_fault.CodecFault.TheVariants.{Short, BadMti, SecondaryBitmap, Unexpected, Missing, BadLength, BadCharacter, Trailing, BadValue}
use Rattle.iso_laws.specs.declared.element.Element.{Element}
use Rattle.iso_laws.specs.declared.element.Element.TheVariants as element
use Rattle.iso_laws.specs.declared.shape.Shape.{Shape}
use Rattle.iso_laws.specs.declared.shape.Shape.TheVariants.{Fixed, UpTo}
use Rattle.iso_laws.specs.declared.rule.Rule.{Rule}
use Rattle.iso_laws.specs.declared.rule.Rule.TheVariants.{Free, Scope, Verdict}
use Rattle.iso_laws.specs.declared.mti.Mti.{Mti}
use Rattle.iso_laws.specs.Elements.{element_number, shape_of, class_of, is_of_class, has_value, Part, parts_of}
use Rattle.iso_laws.specs.Types.{mti_text}
use Rattle.iso_laws.specs.Spelling.{Field, with_field, is_set}

infixl 10 ◌>>=◌
-- go on with what was read, or stay at the first fault
abbrev pub ◌>>=◌ : {A B : Type 0} → Result A CodecFault → (A → Result B CodecFault) → Result B CodecFault
(Ok x) >>= f = f x
(Err e) >>= f = Err e

-- what a function returned, seen by view, is what reading gives
abbrev pub Gives : {X Y : Type 0} → (X → Y) → Result X CodecFault → Result Y CodecFault → Type 0
Gives view (Ok x) read = read ≡ Ok (view x)
Gives view (Err e) read = read ≡ Err e

-- so many bytes for an element, and the bytes after them; element 0 is the type and the bitmap
abbrev pub bytes_at : ℕ → ℕ → List ℕ → Result (List ℕ × List ℕ) CodecFault
bytes_at n size bytes = if nat_lt (length bytes) size then Err (Short n) else Ok (take size bytes, drop size bytes)

-- two digits whose number is within the bounds
abbrev pub is_length : ℕ → ℕ → List ℕ → Bool
is_length min max text = is_digits text && nat_le min (number_of text) && nat_le (number_of text) max

-- as many bytes as an element of the shape has, and the bytes after them
unfoldable pub shaped_at : ℕ → Shape → List ℕ → Result (List ℕ × List ℕ) CodecFault
shaped_at n (Fixed size) bytes = bytes_at n size bytes
shaped_at n (UpTo min max) bytes = do
  prefix ← bytes_at n 2 bytes
  if is_length min max prefix.0 then bytes_at n (number_of prefix.0) prefix.1 else Err (BadLength n)

-- the text of an element, and the bytes after it
unfoldable pub element_at : Element → List ℕ → Result (List ℕ × List ℕ) CodecFault
element_at e bytes = do
  x ← shaped_at (element_number e) (shape_of e) bytes
  if not (is_of_class (class_of e) x.0) then Err (BadCharacter (element_number e))
      else (if has_value e x.0 then Ok x else Err (BadValue (element_number e)))

-- the same where the element is there
unfoldable pub optional_at : Bool → Element → List ℕ → Result (Option (List ℕ) × List ℕ) CodecFault
optional_at false e bytes = Ok (None, bytes)
optional_at true e bytes = do
  x ← element_at e bytes
  Ok (Some x.0, x.1)

-- element 24 of a reversal: 400 without element 30, or 401 with it
unfoldable pub scope_at : Bool → List ℕ → Result (Unit {0}) CodecFault
scope_at amount text =
    if bytes_eq text (codes "400") then (if amount then Err (Unexpected 30) else Ok tt)
    else (if bytes_eq text (codes "401") then (if amount then Ok tt else Err (Missing 30)) else Err (BadValue 24))

-- element 39 of a reply to a request: 000 with element 38, or another without it
unfoldable pub verdict_at : Bool → List ℕ → Result (Unit {0}) CodecFault
verdict_at approval text =
    if bytes_eq text (codes "000") then (if approval then Ok tt else Err (Missing 38))
    else (if approval then Err (Unexpected 38) else Ok tt)

-- what a rule finds in the text of an element, if it is there, by which elements are there
abbrev pub rule_of : Rule → (Element → Bool) → Option (List ℕ) → Result (Unit {0}) CodecFault
rule_of Free there text = Ok tt
rule_of Scope there None = Ok tt
rule_of Scope there (Some text) = scope_at (there element.OriginalAmount) text
rule_of Verdict there None = Ok tt
rule_of Verdict there (Some text) = verdict_at (there element.Approval) text

-- the same by the bitmap
abbrev pub rule_at : Rule → ℕ → Option (List ℕ) → Result (Unit {0}) CodecFault
rule_at rule bitmap text = rule_of rule (λ e. is_set bitmap (element_number e)) text

-- an element, if it is there, in front of those that are read after it
abbrev pub with_first : Element → Option (List ℕ) → Result (List Field × List ℕ) CodecFault → Result (List Field × List ℕ) CodecFault
with_first e text (Ok x) = Ok (with_field e text x.0, x.1)
with_first e text (Err f) = Err f

-- the elements that are there, in rising number, and the bytes after them
unfoldable pub fields_at : ℕ → List Part → List ℕ → Result (List Field × List ℕ) CodecFault
fields_at bitmap [] bytes = Ok ([], bytes)
fields_at bitmap (p ∷ ps) bytes = do
  x ← optional_at (p.0 || is_set bitmap (element_number p.1)) p.1 bytes
  _ ← rule_at p.2 bitmap x.0
  with_first p.1 x.0 (fields_at bitmap ps x.1)

-- all of the bytes as these elements
unfoldable pub whole_at : ℕ → List Part → List ℕ → Result (List Field) CodecFault
whole_at bitmap parts bytes = do
  fields ← fields_at bitmap parts bytes
  if length fields.1 == 0 then Ok fields.0 else Err Trailing

-- the least number from one on, of so many, that passes a test
unfoldable pub least : (ℕ → Bool) → ℕ → ℕ → Option ℕ
least test from zero = None
least test from (suc count) = if test from then Some from else least test (from + 1) count

-- a message of the type may have element n
abbrev pub is_listed : List Part → ℕ → Bool
is_listed parts n = list_any (λ p. element_number p.1 == n) parts

-- each message of the type has element n
abbrev pub is_required : List Part → ℕ → Bool
is_required parts n = list_any (λ p. p.0 && element_number p.1 == n) parts

-- element n is there, and no message of the type has it
abbrev pub is_unexpected : List Part → ℕ → ℕ → Bool
is_unexpected parts bitmap n = is_set bitmap n && not (is_listed parts n)

-- element n is not there, and each message of the type has it
abbrev pub is_missing : List Part → ℕ → ℕ → Bool
is_missing parts bitmap n = is_required parts n && not (is_set bitmap n)

-- the least element that is there and not of the type, else the least that is required and not there
abbrev pub first_wrong : Option ℕ → Option ℕ → Result (Unit {0}) CodecFault
first_wrong (Some n) missing = Err (Unexpected n)
first_wrong None (Some n) = Err (Missing n)
first_wrong None None = Ok tt

-- whether a bitmap can be that of a message with these elements
unfoldable pub presence_at : List Part → ℕ → Result (Unit {0}) CodecFault
presence_at parts bitmap = first_wrong (least (is_unexpected parts bitmap) 2 127) (least (is_missing parts bitmap) 2 127)

-- bit 1, the highest of eight bytes, is set: eight more follow
abbrev pub is_extended : ℕ → Bool
is_extended primary = nat_le (2 ^ 63) primary

-- the whole bitmap, where eight more bytes follow; they say that an element from 65 on is there
unfoldable pub secondary_at : ℕ → List ℕ → Result (ℕ × List ℕ) CodecFault
secondary_at primary bytes = do
  second ← bytes_at 0 8 bytes
  if from_be_bytes w64 second.0 == 0 then Err SecondaryBitmap
      else Ok ((primary - 2 ^ 63) * 2 ^ 64 + from_be_bytes w64 second.0, second.1)

-- the bitmap of elements 2 to 128, and the bytes after it
unfoldable pub bitmap_at : List ℕ → Result (ℕ × List ℕ) CodecFault
bitmap_at bytes = do
  first ← bytes_at 0 8 bytes
  if is_extended (from_be_bytes w64 first.0) then secondary_at (from_be_bytes w64 first.0) first.1
      else Ok (from_be_bytes w64 first.0 * 2 ^ 64, first.1)

-- the type among these that the text names
unfoldable pub mti_at : List Mti → List ℕ → Result Mti CodecFault
mti_at [] text = Err BadMti
mti_at (t ∷ ts) text = if bytes_eq text (mti_text t) then Ok t else mti_at ts text

-- the type, the bitmap, and the bytes after them
unfoldable pub header_at : List Mti → List ℕ → Result (Mti × ℕ × List ℕ) CodecFault
header_at types bytes = do
  front ← bytes_at 0 4 bytes
  mti ← mti_at types front.0
  bits ← bitmap_at front.1
  _ ← presence_at (parts_of mti) bits.0
  Ok (mti, bits.0, bits.1)

-- the type and the elements of a text that is a message of one of these types, else the first fault
unfoldable pub reading : List Mti → List ℕ → Result (Mti × List Field) CodecFault
reading types bytes = do
  head ← header_at types bytes
  fields ← whole_at head.1 (parts_of head.0) head.2
  Ok (head.0, fields)
