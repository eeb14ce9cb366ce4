-- Rows as objects of JSON: each as a book has it, an entry of its list, behind what it is a row of.
use Rattle.std.specs.Prelude.{ℕ, List, [], ◌∷◌, ◌++◌, Bool, true, ◌||◌, if◌then◌else◌, Option, Some, None, codes}
use Rattle.std.specs.Str.{bytes_eq}
use Rattle.iso_shown.specs.Shown.{shown_account, shown_card}
use Rattle.iso_shown.specs.declared.card_numbers.CardNumbers.{CardNumbers}
use Rattle.issuer_words.specs.Words.{RowKey, RowVal}
use Rattle.issuer_rows.specs.declared.row_key.RowKey.TheVariants as key
use Rattle.serde_json.specs.Data.{Data, boolean, string, object, Members, no_members, member}
use Rattle.book_laws.specs.Text.{entry_data, members}

-- what a row is of, by its key
abbrev pub kind_name : RowKey → List ℕ
kind_name (key.Card pan) = codes "card"
kind_name (key.Velocity pan day) = codes "day"
kind_name (key.Budget prefix) = codes "budget"
kind_name (key.Original identity) = codes "original"
kind_name (key.Account id) = codes "account"

-- ---- card numbers in an entry

-- the member of this name is the name of an account
abbrev pub names_account : List ℕ → Bool
names_account name = bytes_eq name (codes "account") || (bytes_eq name (codes "second") || bytes_eq name (codes "id"))

-- the text of the member of this name: a card number, or an account that is named by one, masked unless it is asked for in full
abbrev pub shown_text : CardNumbers → List ℕ → List ℕ → List ℕ
shown_text cards name text =
    if names_account name then shown_account cards text else (if bytes_eq name (codes "pan") then shown_card cards text else text)

-- the value of the member of this name; what is no text stays
abbrev pub shown_value : CardNumbers → List ℕ → Data → Data
shown_value cards name (string text) = string (shown_text cards name text)
shown_value cards name value = value

abbrev pub shown_members : CardNumbers → Members → Members
shown_members cards no_members = no_members
shown_members cards (member name value more) = member name (shown_value cards name value) (shown_members cards more)

-- ---- rows

abbrev pub members_of : Data → Members
members_of (object ms) = ms
members_of _ = no_members

-- what a row is of, and the members of this entry
abbrev pub entry_shown : CardNumbers → RowKey → Data → Data
entry_shown cards k entry = object (member (codes "row") (string (kind_name k)) (shown_members cards (members_of entry)))

-- a row, by its entry in a book
abbrev pub row_data : CardNumbers → RowKey → RowVal → Data
row_data cards k row = entry_shown cards k (entry_data k row)

-- what finds a row, by the names that its entry has for it
abbrev pub key_members : CardNumbers → RowKey → List (List ℕ × Data)
key_members cards (key.Card pan) = (codes "pan", string (shown_card cards pan.0)) ∷ []
key_members cards (key.Velocity pan day) = (codes "pan", string (shown_card cards pan.0)) ∷ (codes "day", string day) ∷ []
key_members cards (key.Budget prefix) = (codes "prefix", string prefix.0) ∷ []
key_members cards (key.Original identity) =
    (codes "acquirer", string identity.acquirer.0) ∷ (codes "stamp", string identity.stamp) ∷ (codes "trace", string identity.stan.0) ∷ []
key_members cards (key.Account id) = (codes "id", string (shown_account cards id.0)) ∷ []

-- a row that isn't there: what it would be of, what would find it, and that it is absent
abbrev pub absent_data : CardNumbers → RowKey → Data
absent_data cards k =
    object (member (codes "row") (string (kind_name k)) (members (key_members cards k ++ (codes "absent", boolean true) ∷ [])))

-- what was found at a key
abbrev pub found_data : CardNumbers → RowKey → Option RowVal → Data
found_data cards k None = absent_data cards k
found_data cards k (Some row) = row_data cards k row
