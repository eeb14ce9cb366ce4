-- Network management of ISO 8583:1993: what an 1804 is as bytes, and its reply, 1814.
use Rattle.std.specs.Prelude.{◌≡◌, ℕ, List, [], ◌∷◌, ◌++◌, length, Option, Some, None, IfSome, codes}
use Rattle.iso8583.specs.Class.{IsDigits}
use Rattle.iso8583.specs.Calendar.{IsLocalStamp}
use Rattle.iso8583.specs.declared.transmission.Transmission.{Transmission}
use Rattle.link_frames.specs.declared.network_function.NetworkFunction.{NetworkFunction}
use Rattle.link_frames.specs.declared.network_function.NetworkFunction.TheVariants.{SignOn, SignOff, Echo}
use Rattle.link_frames.specs.declared.network_message.NetworkMessage.{NetworkMessage}

-- element 24: sign-on 801, sign-off 802, echo test 831
abbrev pub function_text : NetworkFunction → List ℕ
function_text SignOn = codes "801"
function_text SignOff = codes "802"
function_text Echo = codes "831"

-- the type and the bitmap: elements 11, 12 and 24, and 7 if it is there
abbrev pub network_head : Option Transmission → List ℕ
network_head None = codes "1804" ++ 0 ∷ 48 ∷ 1 ∷ 0 ∷ 0 ∷ 0 ∷ 0 ∷ 0 ∷ []
network_head (Some transmission) = codes "1804" ++ 2 ∷ 48 ∷ 1 ∷ 0 ∷ 0 ∷ 0 ∷ 0 ∷ 0 ∷ []

-- the same of the reply, which has element 39, too
abbrev pub network_reply_head : Option Transmission → List ℕ
network_reply_head None = codes "1814" ++ 0 ∷ 48 ∷ 1 ∷ 0 ∷ 2 ∷ 0 ∷ 0 ∷ 0 ∷ []
network_reply_head (Some transmission) = codes "1814" ++ 2 ∷ 48 ∷ 1 ∷ 0 ∷ 2 ∷ 0 ∷ 0 ∷ 0 ∷ []

-- element 7, if it is there
abbrev pub transmission_text : Option Transmission → List ℕ
transmission_text None = []
transmission_text (Some transmission) = transmission.0

-- elements 11, 12 and 24: six digits, twelve, and three
abbrev pub tail_text : NetworkMessage → List ℕ
tail_text m = m.stan.0 ++ m.stamp ++ function_text m.function

-- the one spelling of the message
abbrev pub network_spelling : NetworkMessage → List ℕ
network_spelling m = network_head m.transmission ++ transmission_text m.transmission ++ tail_text m

-- its reply: the message's elements, and action code 800, accepted
abbrev pub network_reply_spelling : NetworkMessage → List ℕ
network_reply_spelling m = network_reply_head m.transmission ++ transmission_text m.transmission ++ tail_text m ++ codes "800"

-- element 7 is ten digits, if it is there
abbrev pub IsTransmission : Option Transmission → Type 0
IsTransmission transmission = IfSome transmission (λ t. (length t.0 ≡ 10) × IsDigits t.0)

-- every network message that there is: the ranges of the values' types
pub record IsNetwork (m : NetworkMessage) : Type 0 where
  pub transmission : IsTransmission m.transmission
  pub stan : (length m.stan.0 ≡ 6) × IsDigits m.stan.0
  pub stamp : IsLocalStamp m.stamp

-- the bytes are the spelling of a network message
abbrev pub SpellsNetwork : List ℕ → NetworkMessage → Type 0
SpellsNetwork bytes m = IsNetwork m × (bytes ≡ network_spelling m)
