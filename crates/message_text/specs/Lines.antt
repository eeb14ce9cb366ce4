-- Bodies and replies as lines of JSON. A message is an object of its elements, by the names that `make` takes.
use Rattle.std.specs.Prelude.{ℕ, List, [], ◌∷◌, ◌++◌, Option, Some, None, ◌==◌, if◌then◌else◌, map, codes}
use Rattle.std.specs.List.{flat_map}
use Rattle.issuer_words.specs.Words.{CodecFault, Frame, Message, Reply, ReplyBody, element_of_fault, fault_body}
use Rattle.iso_laws.specs.Messages.{fields_of, mti_of}
use Rattle.iso_laws.specs.Replies.{reply_fields, reply_mti}
use Rattle.iso_laws.specs.Spelling.{Field}
use Rattle.iso_laws.specs.Types.{mti_text}
use Rattle.iso_laws.specs.declared.element.Element.{Element}
use Rattle.iso_laws.specs.declared.mti.Mti.{Mti}
use Rattle.issuer_rows.specs.declared.frame.Frame.TheVariants as frame
use Rattle.issuer_rows.specs.declared.reply_body.ReplyBody.TheVariants as body
use Rattle.json.specs.Token.{Token, key}
use Rattle.message_text.specs.Names.{name_of}
use Rattle.serde_json.specs.Data.{Data, object, string}
use Rattle.serde_json.specs.Written.{compact_text}
use Rattle.book_laws.specs.Text.{members, numeral, tokens_of}
use Rattle.message_text.specs.Values.{value_of}
use Rattle.iso_shown.specs.declared.card_numbers.CardNumbers.{CardNumbers}
use Rattle.message_text.specs.declared.place.Place.{Place}

-- a member of an object
abbrev pub Member : Type 0
Member = List ℕ × Data

-- an element: its name and its value
abbrev pub element_member : CardNumbers → Field → Member
element_member cards f = (name_of f.0, value_of cards f.0 f.1)

-- the four digits of a type, and the elements that are there, in rising number
abbrev pub spelled_members : CardNumbers → Mti → List Field → List Member
spelled_members cards mti fields = (codes "type", string (mti_text mti)) ∷ map (element_member cards) fields

-- the element that a fault is of, if it is of one
abbrev pub fault_element : ℕ → List Member
fault_element number = if number == 0 then [] else (codes "element", numeral number) ∷ []

-- how a fault is answered, and the number of its element
abbrev pub fault_members : CodecFault → List Member
fault_members fault = (codes "fault", string (fault_body fault)) ∷ fault_element (element_of_fault fault)

-- a message
abbrev pub message_members : CardNumbers → Message → List Member
message_members cards m = spelled_members cards (mti_of m) (fields_of m)

-- a reply to a message
abbrev pub answer_members : CardNumbers → Reply → List Member
answer_members cards r = spelled_members cards (reply_mti r) (reply_fields r)

-- a body: its message, or its fault
abbrev pub frame_members : CardNumbers → Frame → List Member
frame_members cards (frame.Good m) = message_members cards m
frame_members cards (frame.Bad fault) = fault_members fault

-- a reply, or the fault of a body that is no message
abbrev pub reply_members : CardNumbers → ReplyBody → List Member
reply_members cards (body.Reply r) = answer_members cards r
reply_members cards (body.Fault fault) = fault_members fault

-- the block, where the file has blocks
abbrev pub block_members : Option ℕ → List Member
block_members None = []
block_members (Some block) = (codes "block", numeral block) ∷ []

-- where it stands in its file: its block, and its place there, from 0
abbrev pub place_members : Place → List Member
place_members place = block_members place.block ++ ((codes "index", numeral place.index) ∷ [])

-- a body or a reply with its place
abbrev pub frame_data : Place → CardNumbers → Frame → Data
frame_data place cards f = object (members (place_members place ++ frame_members cards f))

abbrev pub reply_data : Place → CardNumbers → ReplyBody → Data
reply_data place cards reply = object (members (place_members place ++ reply_members cards reply))

-- as a line: JSON without spaces, and a line feed
abbrev pub frame_line : Place → CardNumbers → Frame → List ℕ
frame_line place cards f = compact_text (frame_data place cards f) ++ codes "\n"

abbrev pub reply_line : Place → CardNumbers → ReplyBody → List ℕ
reply_line place cards reply = compact_text (reply_data place cards reply) ++ codes "\n"

-- ---- for private clauses: members, token by token

abbrev pub member_tokens : Member → List Token
member_tokens m = key m.0 ∷ tokens_of m.1

abbrev pub all_tokens : List Member → List Token
all_tokens ms = flat_map member_tokens ms

-- the elements that are there
abbrev pub elements_tokens : CardNumbers → List Field → List Token
elements_tokens cards fields = all_tokens (map (element_member cards) fields)

-- an element, if it is there
abbrev pub element_tokens : Element → Option Data → List Token
element_tokens e None = []
element_tokens e (Some value) = key (name_of e) ∷ tokens_of value
