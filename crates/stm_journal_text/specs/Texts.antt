-- The text of what a journal's line is made of. The marks are 10 line feed, 32 space, 46 full stop and 58 colon.
use Rattle.std.specs.Prelude.{◌≡◌, ℕ, ◌<◌, ◌≤◌, ◌^◌, List, ◌∷◌, ◌++◌, length, slice_index, codes}
use Rattle.std.specs.Fmt.{decimal}
use Rattle.hex.specs.Hex.{encode_lower}
use Rattle.issuer_words.specs.Words.{HasDigits, HasPrintable, Identity, IsDay, IsDigits, IsLocalStamp, RowKey}
use Rattle.stm_memory.specs.declared.version.Version.{Version}
use Rattle.issuer_rows.specs.declared.row_key.RowKey.TheVariants as key
use Rattle.stm_journal_text.specs.declared.event.Event.{Event}
use Rattle.stm_journal_text.specs.declared.event.Event.TheVariants as event

-- index and incarnation
abbrev pub version_text : Version → List ℕ
version_text v = decimal v.index ++ 46 ∷ decimal v.incarnation

-- acquirer, trace number, local date and time
abbrev pub identity_text : Identity → List ℕ
identity_text i = i.acquirer.0 ++ 58 ∷ (i.stan.0 ++ 58 ∷ i.stamp)

-- the kind of a row and what names it; an account's name is in hexadecimal
abbrev pub key_text : RowKey → List ℕ
key_text (key.Card pan) = codes "card:" ++ pan.0
key_text (key.Velocity pan day) = codes "day:" ++ (pan.0 ++ 58 ∷ day)
key_text (key.Budget prefix) = codes "budget:" ++ prefix.0
key_text (key.Original identity) = codes "orig:" ++ identity_text identity
key_text (key.Account id) = codes "acct:" ++ encode_lower id.0

-- a letter for what is done, and what it is done to
abbrev pub event_text : Event → List ℕ
event_text event.Claim = codes "n"
event_text (event.Read v row) = codes "r " ++ (version_text v ++ 32 ∷ key_text row)
event_text (event.Block v on) = codes "b " ++ (version_text v ++ 32 ∷ decimal on)
event_text (event.Finish v) = codes "f " ++ version_text v
event_text (event.BeginValidation v) = codes "c " ++ version_text v
event_text event.ValidateOne = codes "o"
event_text event.EndValidation = codes "e"
event_text event.Commit = codes "k"

-- one to ten digits, of which the first of more than one is not 0
pub record IsShortDecimal (text : List ℕ) : Type 0 where
  pub nonempty : 0 < length text
  pub short : length text ≤ 10
  pub digits : IsDigits text
  pub first : slice_index text 0 ≡ 48 → length text ≡ 1

-- both numbers are of 32 bits
pub record IsVersion (v : Version) : Type 0 where
  pub index : v.index < 2 ^ 32
  pub incarnation : v.incarnation < 2 ^ 32

-- the parts are 1 to 11 digits, six digits, and a date with a time
pub record IsIdentity (i : Identity) : Type 0 where
  pub acquirer : HasDigits 1 11 i.acquirer.0
  pub length_of_stan : length i.stan.0 ≡ 6
  pub stan : IsDigits i.stan.0
  pub stamp : IsLocalStamp i.stamp

-- every key that there is: its parts are values of their types
abbrev pub IsKey : RowKey → Type 0
IsKey (key.Card pan) = HasDigits 12 19 pan.0
IsKey (key.Velocity pan day) = HasDigits 12 19 pan.0 × IsDay day
IsKey (key.Budget prefix) = (length prefix.0 ≡ 6) × IsDigits prefix.0
IsKey (key.Original identity) = IsIdentity identity
IsKey (key.Account id) = HasPrintable 1 28 id.0

-- every event that there is: its parts are values of their types
abbrev pub IsEvent : Event → Type 0
IsEvent event.Claim = Unit {0}
IsEvent (event.Read v row) = IsVersion v × IsKey row
IsEvent (event.Block v on) = IsVersion v × (on < 2 ^ 32)
IsEvent (event.Finish v) = IsVersion v
IsEvent (event.BeginValidation v) = IsVersion v
IsEvent event.ValidateOne = Unit {0}
IsEvent event.EndValidation = Unit {0}
IsEvent event.Commit = Unit {0}
