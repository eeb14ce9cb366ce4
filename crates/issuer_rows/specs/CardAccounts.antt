-- The accounts of a card.
use Rattle.std.specs.Prelude.{Bool, false, ◌||◌, if◌then◌else◌, Option, Some, None}
use Rattle.iso8583.specs.declared.account_id.AccountId.{AccountId}
use Rattle.issuer_rows.specs.RowKey.{text_eq}

-- the account that pays where a message names none, and the other one, if there is one
pub record AccountsOfCard : Type 0 where
  pub first : AccountId
  pub second : Option AccountId

-- the same account
abbrev pub is_same_account : AccountId → AccountId → Bool
is_same_account a b = text_eq a.0 b.0

-- the second account, if there is one, is this one
abbrev pub is_second : Option AccountId → AccountId → Bool
is_second None id = false
is_second (Some second) id = is_same_account id second

-- the account that the message names, if it is one of the card's two; where it names none, the first
abbrev pub account_of : AccountsOfCard → Option AccountId → Option AccountId
account_of accounts None = Some accounts.first
account_of accounts (Some id) = if is_same_account id accounts.first || is_second accounts.second id then Some id else None
