-- Fields of an entry: the kind of the JSON value first, then its range.
use Rattle.std.specs.Prelude.{ℕ, ◌^◌, Bool, true, false, ◌&&◌, ◌==◌, nat_lt, nat_le, List, [], ◌∷◌, length, drop, Option, Some, None, is_some, option_map, option_and_then, unwrap_or, Result, Ok, Err, if◌then◌else◌, codes}
use Rattle.std.specs.Str.{bytes_eq}
use Rattle.issuer_words.specs.Words.{AccountId, Acquirer, Approval, BudgetMode, CardStatus, Currency, Identity, OriginalKind, Pan, PanPrefix, Processing, Stan, is_alphanumeric, is_day, is_digits, is_local_stamp, is_month, is_printable, number_of}
use Rattle.serde_json.specs.Data.{Data, Members, no_members, member}
use Rattle.serde_json.specs.Find.{get, as_null, as_number, as_u64, as_str, as_object}
use Rattle.book_laws.specs.Steps.{◌>>=◌, or_fault, in_range}
use Rattle.book_laws.specs.Words.{status_of, mode_of, kind_of, paid_of}
use Rattle.book_laws.specs.declared.book_version.BookVersion.{BookVersion}
use Rattle.book_laws.specs.declared.text_fault.TextFault.{TextFault}
use Rattle.book_laws.specs.declared.text_fault.TextFault.TheVariants.{Shape, Range}
use Rattle.book_laws.specs.declared.paid.Paid.{Paid}
use Rattle.book_laws.specs.declared.part.Part.{Part}

-- the members have these keys, in this order, and no other
abbrev pub are_keys : List (List ℕ) → Members → Bool
are_keys [] no_members = true
are_keys [] (member k d ms) = false
are_keys (key ∷ keys) no_members = false
are_keys (key ∷ keys) (member k d ms) = bytes_eq k key && are_keys keys ms

-- an object with exactly these keys; a value that was read has its keys in byte order
abbrev pub has_keys : List (List ℕ) → Data → Bool
has_keys keys entry = unwrap_or (option_map (are_keys keys) (as_object entry)) false

-- the entry is an object with exactly the keys; else the part has another shape
abbrev pub with_keys : Part → List (List ℕ) → Data → Result (Unit {0}) TextFault
with_keys part keys entry = if has_keys keys entry then Ok tt else Err (Shape part)

-- ---- JSON values

-- the value at a key
abbrev pub value_at : Part → List ℕ → Data → Result Data TextFault
value_at part key entry = or_fault (Shape part) (get key entry)

-- a whole number from 0 to 2^64 - 1
abbrev pub number_at : Part → List ℕ → Data → Result ℕ TextFault
number_at part key entry = or_fault (Shape part) (option_and_then as_u64 (option_and_then as_number (get key entry)))

-- a text
abbrev pub text_at : Part → List ℕ → Data → Result (List ℕ) TextFault
text_at part key entry = or_fault (Shape part) (option_and_then as_str (get key entry))

-- null
abbrev pub is_null : Data → Bool
is_null d = is_some (as_null d)

-- null, or what is read of another value
abbrev pub optional : {A : Type 0} → (Data → Result A TextFault) → Data → Result (Option A) TextFault
optional read d = if is_null d then Ok None else (read d >>= λ x. Ok (Some x))

-- ---- numbers

-- money in a row: 0 to 10^15
abbrev pub balance_at : Part → List ℕ → Data → Result ℕ TextFault
balance_at part key entry = do
  n ← number_at part key entry
  in_range (nat_le n (10 ^ 15)) n

-- an amount: 0 to 999,999,999,999
abbrev pub amount_at : Part → List ℕ → Data → Result ℕ TextFault
amount_at part key entry = do
  n ← number_at part key entry
  in_range (nat_lt n (10 ^ 12)) n

-- a number of approvals: 0 to 999,999
abbrev pub count_at : Part → List ℕ → Data → Result ℕ TextFault
count_at part key entry = do
  n ← number_at part key entry
  in_range (nat_lt n 1000000) n

-- ---- texts

-- a currency: three digits
abbrev pub currency_at : Part → List ℕ → Data → Result Currency TextFault
currency_at part key entry = do
  text ← text_at part key entry
  in_range ((length text == 3) && is_digits text) (record { 0 = text })

-- a month: four digits YYMM, from 01 to 12
abbrev pub expiry_at : Part → List ℕ → Data → Result (List ℕ) TextFault
expiry_at part key entry = do
  text ← text_at part key entry
  in_range ((length text == 4) && is_digits text && is_month (number_of (drop 2 text))) text

-- a card number: 12 to 19 digits
abbrev pub pan_at : Part → List ℕ → Data → Result Pan TextFault
pan_at part key entry = do
  text ← text_at part key entry
  in_range (nat_le 12 (length text) && nat_le (length text) 19 && is_digits text) (record { 0 = text })

-- a prefix of card numbers: six digits
abbrev pub prefix_at : Part → List ℕ → Data → Result PanPrefix TextFault
prefix_at part key entry = do
  text ← text_at part key entry
  in_range ((length text == 6) && is_digits text) (record { 0 = text })

-- a day: six digits YYMMDD, months from 01 to 12 and days from 01 to 31
abbrev pub day_at : Part → List ℕ → Data → Result (List ℕ) TextFault
day_at part key entry = do
  text ← text_at part key entry
  in_range ((length text == 6) && is_digits text && is_day text) text

-- an action code: three digits
abbrev pub action_at : Part → List ℕ → Data → Result ℕ TextFault
action_at part key entry = do
  text ← text_at part key entry
  in_range ((length text == 3) && is_digits text) (number_of text)

-- a processing code: six digits
abbrev pub processing_at : Part → List ℕ → Data → Result Processing TextFault
processing_at part key entry = do
  text ← text_at part key entry
  in_range ((length text == 6) && is_digits text) (record { 0 = text })

-- an acquirer: 1 to 11 digits
abbrev pub acquirer_at : Part → List ℕ → Data → Result Acquirer TextFault
acquirer_at part key entry = do
  text ← text_at part key entry
  in_range (nat_le 1 (length text) && nat_le (length text) 11 && is_digits text) (record { 0 = text })

-- a trace number: six digits
abbrev pub stan_at : Part → List ℕ → Data → Result Stan TextFault
stan_at part key entry = do
  text ← text_at part key entry
  in_range ((length text == 6) && is_digits text) (record { 0 = text })

-- a local date and time: twelve digits, as in element 12
abbrev pub stamp_at : Part → List ℕ → Data → Result (List ℕ) TextFault
stamp_at part key entry = do
  text ← text_at part key entry
  in_range ((length text == 12) && is_digits text && is_local_stamp text) text

-- ---- words

abbrev pub status_at : Part → List ℕ → Data → Result CardStatus TextFault
status_at part key entry = do
  word ← text_at part key entry
  or_fault Range (status_of word)

abbrev pub mode_at : Part → List ℕ → Data → Result BudgetMode TextFault
mode_at part key entry = do
  word ← text_at part key entry
  or_fault Range (mode_of word)

abbrev pub kind_at : Part → List ℕ → Data → Result OriginalKind TextFault
kind_at part key entry = do
  word ← text_at part key entry
  or_fault Range (kind_of word)

abbrev pub paid_at : BookVersion → Part → List ℕ → Data → Result Paid TextFault
paid_at version part key entry = do
  word ← text_at part key entry
  or_fault Range (paid_of version word)

-- ---- what may be null

-- the name of an account: 1 to 28 printable characters
abbrev pub account_id_of : Part → Data → Result AccountId TextFault
account_id_of part d = do
  text ← or_fault (Shape part) (as_str d)
  in_range (nat_le 1 (length text) && nat_le (length text) 28 && is_printable text) (record { 0 = text })

abbrev pub account_id_at : Part → List ℕ → Data → Result AccountId TextFault
account_id_at part key entry = do
  value ← value_at part key entry
  account_id_of part value

abbrev pub optional_account_id_at : Part → List ℕ → Data → Result (Option AccountId) TextFault
optional_account_id_at part key entry = do
  value ← value_at part key entry
  optional (account_id_of part) value

-- an approval code: six letters, digits and spaces
abbrev pub approval_of : Part → Data → Result Approval TextFault
approval_of part d = do
  text ← or_fault (Shape part) (as_str d)
  in_range ((length text == 6) && is_alphanumeric text) (record { 0 = text })

abbrev pub optional_approval_at : Part → List ℕ → Data → Result (Option Approval) TextFault
optional_approval_at part key entry = do
  value ← value_at part key entry
  optional (approval_of part) value

abbrev pub identity_keys : List (List ℕ)
identity_keys = codes "acquirer" ∷ codes "stamp" ∷ codes "trace" ∷ []

-- the identity of a reversal: an object of its own
unfoldable pub identity_of : Part → Data → Result Identity TextFault
identity_of part d = do
  _ ← with_keys part identity_keys d
  acquirer ← acquirer_at part (codes "acquirer") d
  stamp ← stamp_at part (codes "stamp") d
  stan ← stan_at part (codes "trace") d
  Ok (record { acquirer = acquirer; stan = stan; stamp = stamp })

abbrev pub identity_at : Part → List ℕ → Data → Result Identity TextFault
identity_at part key entry = do
  value ← value_at part key entry
  identity_of part value

abbrev pub optional_identity_at : Part → List ℕ → Data → Result (Option Identity) TextFault
optional_identity_at part key entry = do
  value ← value_at part key entry
  optional (identity_of part) value
