-- The data elements that this profile of ISO 8583:1993 uses: number, shape, class of characters and value test of each, and
-- which message type has it.
use Rattle.std.specs.Prelude.{◌≡◌, ℕ, ◌-◌, ◌≤◌, Bool, true, false, ◌&&◌, ◌||◌, ◌==◌, List, [], ◌∷◌, ◌++◌, length, take, drop, IsTrue, codes}
use Rattle.std.specs.Str.{bytes_eq}
use Rattle.iso8583.specs.Class.{is_digits, is_alphanumeric, is_printable}
use Rattle.iso8583.specs.Calendar.{is_local_stamp}
use Rattle.iso8583.specs.Number.{number_of, fixed_digits}
use Rattle.iso8583.specs.declared.original_kind.OriginalKind.{OriginalKind}
use Rattle.iso8583.specs.declared.original_kind.OriginalKind.TheVariants as kind
use Rattle.iso8583.specs.declared.original_ref.OriginalRef.{OriginalRef}
use Rattle.iso_laws.specs.declared.element.Element.{Element}
use Rattle.iso_laws.specs.declared.element.Element.TheVariants.{Pan, Processing, Amount, Transmission, Stan, Stamp, Function, OriginalAmount, Acquirer, Retrieval, Approval, Action, Terminal, Currency, Original, Account}
use Rattle.iso_laws.specs.declared.mti.Mti.{Mti}
use Rattle.iso_laws.specs.declared.mti.Mti.TheVariants as mti
use Rattle.iso_laws.specs.declared.rule.Rule.{Rule}
use Rattle.iso_laws.specs.declared.rule.Rule.TheVariants.{Free, Scope, Verdict}
use Rattle.iso_laws.specs.declared.shape.Shape.{Shape}
use Rattle.iso_laws.specs.declared.shape.Shape.TheVariants.{Fixed, UpTo}
use Rattle.iso_laws.specs.declared.class.Class.{Class}
use Rattle.iso_laws.specs.declared.class.Class.TheVariants as class

-- digits alone (n), letters, digits and spaces alone (anp), printable characters alone (ans)
abbrev pub is_of_class : Class → List ℕ → Bool
is_of_class class.Digits text = is_digits text
is_of_class class.Alphanumeric text = is_alphanumeric text
is_of_class class.Printable text = is_printable text

-- the second half of element 30
abbrev pub twelve_zeros : List ℕ
twelve_zeros = codes "000000000000"

-- element 30: an amount, and zeros in place of a second one
unfoldable pub is_original_amount : List ℕ → Bool
is_original_amount text = bytes_eq (drop 12 text) twelve_zeros

-- the type of an original, a request or an advice, in element 56
abbrev pub original_type : OriginalKind → Bool → List ℕ
original_type kind.Request false = codes "1100"
original_type kind.Request true = codes "1101"
original_type kind.Advice false = codes "1120"
original_type kind.Advice true = codes "1121"

-- 1100 or 1101 of a request, 1120 or 1121 of an advice
unfoldable pub is_original_type : List ℕ → Bool
is_original_type text = bytes_eq text (codes "1100") || bytes_eq text (codes "1101") || bytes_eq text (codes "1120") || bytes_eq text (codes "1121")

-- element 56: type, trace number, local date and time, and the acquirer behind two digits of its length
unfoldable pub original_text : OriginalRef → List ℕ
original_text o =
    original_type o.kind o.repeat ++ o.identity.stan.0 ++ o.identity.stamp ++ fixed_digits 2 (length o.identity.acquirer.0) ++ o.identity.acquirer.0

-- the type is one of the four, the date and time are such, and the inner length is that of what follows it
unfoldable pub is_original : List ℕ → Bool
is_original text =
    is_original_type (take 4 text) && is_local_stamp (take 12 (drop 10 text)) && number_of (take 2 (drop 22 text)) == length text - 24

-- any text of its shape and class is a value
abbrev pub any_value : List ℕ → Bool
any_value text = true

-- ---- the table

-- an element: its number, which is that of its bit in the bitmap; so many characters, or from so many to so many of them behind two
-- digits of length (LLVAR); which characters; and the test of its value
pub record Row : Type 0 where
  pub number : ℕ
  pub shape : Shape
  pub class : Class
  pub has_value : List ℕ → Bool

abbrev row : ℕ → Shape → Class → (List ℕ → Bool) → Row
row number shape class has_value = record { number = number; shape = shape; class = class; has_value = has_value }

abbrev pub row_of : Element → Row
row_of Pan = row 2 (UpTo 12 19) class.Digits any_value
row_of Processing = row 3 (Fixed 6) class.Digits any_value
row_of Amount = row 4 (Fixed 12) class.Digits any_value
row_of Transmission = row 7 (Fixed 10) class.Digits any_value
row_of Stan = row 11 (Fixed 6) class.Digits any_value
row_of Stamp = row 12 (Fixed 12) class.Digits is_local_stamp
row_of Function = row 24 (Fixed 3) class.Digits any_value
row_of OriginalAmount = row 30 (Fixed 24) class.Digits is_original_amount
row_of Acquirer = row 32 (UpTo 1 11) class.Digits any_value
row_of Retrieval = row 37 (Fixed 12) class.Alphanumeric any_value
row_of Approval = row 38 (Fixed 6) class.Alphanumeric any_value
row_of Action = row 39 (Fixed 3) class.Digits any_value
row_of Terminal = row 41 (Fixed 8) class.Printable any_value
row_of Currency = row 49 (Fixed 3) class.Digits any_value
row_of Original = row 56 (UpTo 25 35) class.Digits is_original
row_of Account = row 102 (UpTo 1 28) class.Printable any_value

-- all of them, in rising number
abbrev pub elements : List Element
elements =
    Pan ∷ Processing ∷ Amount ∷ Transmission ∷ Stan ∷ Stamp
    ∷ Function ∷ OriginalAmount ∷ Acquirer ∷ Retrieval ∷ Approval ∷ Action
    ∷ Terminal ∷ Currency ∷ Original ∷ Account ∷ []

abbrev pub element_number : Element → ℕ
element_number e = (row_of e).number

abbrev pub shape_of : Element → Shape
shape_of e = (row_of e).shape

abbrev pub class_of : Element → Class
class_of e = (row_of e).class

abbrev pub has_value : Element → List ℕ → Bool
has_value e = (row_of e).has_value

-- ---- which type has which

-- an element of a type: whether each message of the type has it, and what it has to do with the others
abbrev pub Part : Type 0
Part = Bool × Element × Rule

-- an element that each message of the type has
abbrev pub required : Element → Part
required e = (true, e, Free)

-- an element that a message of the type may have
abbrev pub optional : Element → Part
optional e = (false, e, Free)

-- the elements that every message and every reply begins with
abbrev pub front_parts : List Part
front_parts =
    required Pan ∷ required Processing ∷ required Amount ∷ required Transmission ∷ required Stan ∷ required Stamp ∷ []

-- the elements of a request, an advice and a reversal from 24 on
abbrev request_parts : List Part
request_parts =
    required Function ∷ required Acquirer ∷ optional Retrieval ∷ required Terminal ∷ required Currency
    ∷ optional Account ∷ []

abbrev advice_parts : List Part
advice_parts =
    required Function ∷ required Acquirer ∷ optional Retrieval ∷ required Action ∷ required Terminal
    ∷ required Currency ∷ optional Account ∷ []

abbrev reversal_parts : List Part
reversal_parts =
    (true, Function, Scope) ∷ optional OriginalAmount ∷ required Acquirer ∷ optional Retrieval
    ∷ required Terminal ∷ required Currency ∷ required Original ∷ []

-- the elements of each type from 24 on, in rising number
abbrev pub tail_parts : Mti → List Part
tail_parts mti.Request = request_parts
tail_parts mti.RequestRepeat = request_parts
tail_parts mti.RequestReply =
    required Acquirer ∷ optional Retrieval ∷ optional Approval ∷ (true, Action, Verdict)
    ∷ required Terminal ∷ required Currency ∷ optional Account ∷ []
tail_parts mti.Advice = advice_parts
tail_parts mti.AdviceRepeat = advice_parts
tail_parts mti.AdviceReply =
    required Acquirer ∷ optional Retrieval ∷ required Action ∷ required Terminal ∷ required Currency
    ∷ optional Account ∷ []
tail_parts mti.Reversal = reversal_parts
tail_parts mti.ReversalRepeat = reversal_parts
tail_parts mti.ReversalReply =
    required Acquirer ∷ optional Retrieval ∷ required Action ∷ required Terminal ∷ required Currency ∷ []

-- the elements of each type, in rising number
abbrev pub parts_of : Mti → List Part
parts_of t = front_parts ++ tail_parts t

-- ---- what a text of an element is

-- the text is as long as its shape says
abbrev pub HasShape : Shape → List ℕ → Type 0
HasShape (Fixed size) text = length text ≡ size
HasShape (UpTo min max) text = (min ≤ length text) × (length text ≤ max)

-- what the text of an element is
abbrev pub IsText : Element → List ℕ → Type 0
IsText e text = HasShape (shape_of e) text × IsTrue (is_of_class (class_of e) text) × IsTrue (has_value e text)
