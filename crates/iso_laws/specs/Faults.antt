-- Which fault a text is answered that is no message of these types, by what is there and what its type asks for.
use Rattle.std.specs.Prelude.{◌≡◌, ◌≢◌, ◌↔◌, ◌⊎◌, ℕ, ◌<◌, ◌≤◌, ◌^◌, List, ◌∷◌, ◌++◌, length, take, Err, IsOk, IsTrue, IsFalse, slice_index}
use Rattle.std.specs.Int.{w64, to_be_bytes, from_be_bytes}
use Rattle.iso8583.specs.declared.codec_fault.CodecFault.{CodecFault}
use Rattle.iso8583.specs.declared.codec_fault.CodecFault.TheVariants.{Short, BadMti, SecondaryBitmap, Unexpected, Missing, BadLength, BadCharacter, Trailing, BadValue}
use Rattle.iso8583.specs.declared.message.Message.{Message}
use Rattle.iso8583.specs.declared.reply.Reply.{Reply}
use Rattle.iso_laws.specs.Elements.{parts_of}
use Rattle.iso_laws.specs.declared.mti.Mti.{Mti}
use Rattle.iso_laws.specs.Types.{mti_text, is_among, taken_in, given_out}
use Rattle.iso_laws.specs.Spelling.{is_set, bitmap_bytes}
use Rattle.iso_laws.specs.Messages.{Spells}
use Rattle.iso_laws.specs.Replies.{SpellsReply}
use Rattle.iso_laws.specs.FirstWrong.{those_there, IsFirstWrong}
use Rattle.iso_laws.specs.Reading.{is_listed, is_required, reading}

-- a bitmap of elements 2 to 128 says that element n is there
abbrev pub IsPresent : ℕ → ℕ → Type 0
IsPresent bitmap n = IsTrue (is_set bitmap n)

-- it says that element n isn't there
abbrev pub IsAbsent : ℕ → ℕ → Type 0
IsAbsent bitmap n = IsFalse (is_set bitmap n)

-- a message of the type may have element n
abbrev pub MayHave : Mti → ℕ → Type 0
MayHave t n = IsTrue (is_listed (parts_of t) n)

-- no message of the type has element n
abbrev pub NeverHas : Mti → ℕ → Type 0
NeverHas t n = IsFalse (is_listed (parts_of t) n)

-- each message of the type has element n
abbrev pub MustHave : Mti → ℕ → Type 0
MustHave t n = IsTrue (is_required (parts_of t) n)

-- a type, a bitmap of elements 2 to 128, and anything behind them
abbrev pub begins : Mti → ℕ → List ℕ → List ℕ
begins t bitmap rest = mti_text t ++ bitmap_bytes bitmap ++ rest

-- the same in eight bytes where bit 1 is set, eight more, and anything behind them
abbrev pub begins_extended : Mti → ℕ → ℕ → List ℕ → List ℕ
begins_extended t primary secondary rest = mti_text t ++ to_be_bytes w64 primary ++ to_be_bytes w64 secondary ++ rest

-- the least element that is there and that its type never has
abbrev pub IsLeastUnexpected : Mti → ℕ → ℕ → Type 0
IsLeastUnexpected t bitmap n =
    (2 ≤ n) × (n ≤ 128) × IsPresent bitmap n × NeverHas t n × ((m : ℕ) → 2 ≤ m → m < n → IsPresent bitmap m → MayHave t m)

-- the type may have each element that is there, and this is the least that it must have and that is absent
abbrev pub IsLeastMissing : Mti → ℕ → ℕ → Type 0
IsLeastMissing t bitmap n =
    ((m : ℕ) → 2 ≤ m → m ≤ 128 → IsPresent bitmap m → MayHave t m) × MustHave t n × IsAbsent bitmap n × ((m : ℕ) → m < n → MustHave t m → IsPresent bitmap m)

-- a bitmap of a message of the type: the type may have each element that is there, and each that it must have is there
abbrev pub IsBitmapOf : Mti → ℕ → Type 0
IsBitmapOf t bitmap = ((m : ℕ) → 2 ≤ m → m ≤ 128 → IsPresent bitmap m → MayHave t m) × ((m : ℕ) → MustHave t m → IsPresent bitmap m)

-- an unexpected element: named exactly where it is the least by the bitmap, or where the first wrong element is one whose rule forbids it
abbrev pub NamesTheLeastUnexpected : List Mti → Type 0
NamesTheLeastUnexpected types = (t : Mti) (bitmap n : ℕ) (rest : List ℕ) → IsTrue (is_among types t) → bitmap < 2 ^ 127
    → (reading types (begins t bitmap rest) ≡ Err (Unexpected n))
    ↔ (IsLeastUnexpected t bitmap n ⊎ (IsBitmapOf t bitmap × IsFirstWrong bitmap (those_there bitmap (parts_of t)) rest (Unexpected n)))

-- a missing element: named exactly where it is the least by the bitmap, or where the first wrong element is one whose rule asks for it
abbrev pub NamesTheLeastMissing : List Mti → Type 0
NamesTheLeastMissing types = (t : Mti) (bitmap n : ℕ) (rest : List ℕ) → IsTrue (is_among types t) → bitmap < 2 ^ 127
    → (reading types (begins t bitmap rest) ≡ Err (Missing n))
    ↔ (IsLeastMissing t bitmap n ⊎ (IsBitmapOf t bitmap × IsFirstWrong bitmap (those_there bitmap (parts_of t)) rest (Missing n)))

-- a second bitmap without an element: named exactly where bit 1 is set behind a type of the list, and the second eight bytes are zeros
abbrev pub NamesASecondaryBitmap : List Mti → Type 0
NamesASecondaryBitmap types = (bytes : List ℕ) → ((i : ℕ) → slice_index bytes i < 256) → (reading types bytes ≡ Err SecondaryBitmap)
    ↔ ((t : Mti) × (primary : ℕ) × (rest : List ℕ) × IsTrue (is_among types t) × (2 ^ 63 ≤ primary) × (primary < 2 ^ 64) × (bytes ≡ begins_extended t primary 0 rest))

-- another type: named exactly where there are four bytes, and they are the text of no type of the list
abbrev pub NamesAnUnknownType : List Mti → Type 0
NamesAnUnknownType types = (bytes : List ℕ)
    → (reading types bytes ≡ Err BadMti) ↔ ((4 ≤ length bytes) × ((t : Mti) → IsTrue (is_among types t) → take 4 bytes ≢ mti_text t))

-- too few bytes for a bitmap: fewer than eight, or than sixteen where bit 1 is set
abbrev pub IsShortBitmap : List ℕ → Type 0
IsShortBitmap bytes = (length bytes < 8) ⊎ ((length bytes < 16) × (2 ^ 63 ≤ from_be_bytes w64 (take 8 bytes)))

-- too few bytes for a type and a bitmap: named exactly where there are fewer than four, or too few for a bitmap behind a type of the list
abbrev pub NamesAShortHeader : List Mti → Type 0
NamesAShortHeader types = (bytes : List ℕ) → (reading types bytes ≡ Err (Short 0))
    ↔ ((length bytes < 4) ⊎ ((t : Mti) × (rest : List ℕ) × IsTrue (is_among types t) × (bytes ≡ mti_text t ++ rest) × IsShortBitmap rest))

-- behind a type and its bitmap, any fault but a byte too many: named exactly where the elements in front of one are right, and it has
-- that fault
abbrev pub NamesTheFirstWrongElement : List Mti → Type 0
NamesTheFirstWrongElement types = (t : Mti) (bitmap : ℕ) (rest : List ℕ) (d : CodecFault) → IsTrue (is_among types t) → bitmap < 2 ^ 127 → IsBitmapOf t bitmap → d ≢ Trailing
    → (reading types (begins t bitmap rest) ≡ Err d) ↔ IsFirstWrong bitmap (those_there bitmap (parts_of t)) rest d

-- too few bytes for an element, a wrong length, byte or value: named nowhere else than behind a type of the list and its bitmap
abbrev pub IsOfElement : CodecFault → Type 0
IsOfElement (Short n) = n ≢ 0
IsOfElement (BadLength n) = Unit {0}
IsOfElement (BadCharacter n) = Unit {0}
IsOfElement (BadValue n) = Unit {0}
IsOfElement _ = ⊥

-- so an element is named behind a type of the list and its bitmap alone
abbrev pub NamesAnElementBehindItsBitmap : List Mti → Type 0
NamesAnElementBehindItsBitmap types = (bytes : List ℕ) (d : CodecFault) → ((i : ℕ) → slice_index bytes i < 256) → IsOfElement d → reading types bytes ≡ Err d
    → (t : Mti) × (bitmap : ℕ) × (rest : List ℕ) × IsTrue (is_among types t) × (bitmap < 2 ^ 127) × (bytes ≡ begins t bitmap rest) × IsBitmapOf t bitmap

-- at least one byte too many: named exactly where a part of the text, from its first byte on, is read whole
abbrev pub NamesATrailingByte : List Mti → Type 0
NamesATrailingByte types = (bytes : List ℕ) → ((i : ℕ) → slice_index bytes i < 256)
    → (reading types bytes ≡ Err Trailing) ↔ ((front : List ℕ) × (byte : ℕ) × (rest : List ℕ) × (bytes ≡ front ++ (byte ∷ rest)) × IsOk (reading types front))

-- so it is behind each spelling of a message
abbrev pub NamesAByteBehindAMessage : Type 0
NamesAByteBehindAMessage = (bytes : List ℕ) (m : Message) (byte : ℕ) (rest : List ℕ) → Spells bytes m → reading taken_in (bytes ++ (byte ∷ rest)) ≡ Err Trailing

-- and behind each spelling of a reply
abbrev pub NamesAByteBehindAReply : Type 0
NamesAByteBehindAReply = (bytes : List ℕ) (r : Reply) (byte : ℕ) (rest : List ℕ) → SpellsReply bytes r → reading given_out (bytes ++ (byte ∷ rest)) ≡ Err Trailing
