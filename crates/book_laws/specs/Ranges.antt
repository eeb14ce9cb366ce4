-- Values in their ranges, for private clauses.
use Rattle.std.specs.Prelude.{◌≡◌, ℕ, ◌<◌, ◌≤◌, ◌^◌, List, length, IfSome}
use Rattle.issuer_words.specs.Words.{AccountId, AccountRow, Approval, BudgetRow, CardRow, HasDigits, HasPrintable, Identity, IsAlphanumeric, IsDay, IsDigits, IsExpiry, IsLocalStamp, Mark, Pan, PanPrefix, VelocityRow, fixed_digits}
use Rattle.book_laws.specs.declared.original_entry.OriginalEntry.{OriginalEntry}

-- so many digits
pub record AreDigits (count : ℕ) (text : List ℕ) : Type 0 where
  pub len : length text ≡ count
  pub digits : IsDigits text

-- an identity whose parts are in range
pub record IsIdentity (identity : Identity) : Type 0 where
  pub acquirer : HasDigits 1 11 identity.acquirer.0
  pub stamp : IsLocalStamp identity.stamp
  pub stan : AreDigits 6 identity.stan.0

-- an account's name in range
abbrev pub IsAccountId : AccountId → Type 0
IsAccountId id = HasPrintable 1 28 id.0

-- an approval code in range
abbrev pub IsApproval : Approval → Type 0
IsApproval code = (length code.0 ≡ 6) × IsAlphanumeric code.0

-- what is said of an original, in range
pub record IsOriginalEntry (identity : Identity) (e : OriginalEntry) : Type 0 where
  pub named : IsIdentity identity
  pub account : IfSome e.account IsAccountId
  pub action : e.action < 1000
  pub digits : AreDigits 3 (fixed_digits 3 e.action)
  pub amount : e.amount < 10 ^ 12
  pub approval : IfSome e.approval IsApproval
  pub pan : HasDigits 12 19 e.pan.0
  pub processing : AreDigits 6 e.processing.0
  pub reversed : IfSome e.reversed IsIdentity
  pub stay : e.stay < 10 ^ 12

-- a card in its ranges
pub record IsCard (number : Pan) (card : CardRow) : Type 0 where
  pub account : IsAccountId card.accounts.first
  pub approvals : card.approvals < 1000000
  pub day_amount : card.day_amount ≤ 10 ^ 15
  pub day_count : card.day_count < 1000000
  pub expiry : IsExpiry card.expiry
  pub pan : HasDigits 12 19 number.0
  pub second : IfSome card.accounts.second IsAccountId

-- what was spent with a card on a day, in its ranges
pub record IsDayRow (number : Pan) (text : List ℕ) (row : VelocityRow) : Type 0 where
  pub count : row.count < 1000000
  pub day : IsDay text
  pub pan : HasDigits 12 19 number.0
  pub sum : row.sum ≤ 10 ^ 15

-- a stand-in budget in its ranges
pub record IsBudget (digits : PanPrefix) (row : BudgetRow) : Type 0 where
  pub cap : row.cap ≤ 10 ^ 15
  pub left : row.left ≤ 10 ^ 15
  pub prefix : AreDigits 6 digits.0

-- a reversal mark in its ranges
pub record IsMark (identity : Identity) (mark : Mark) : Type 0 where
  pub named : IsIdentity identity
  pub card : HasDigits 12 19 mark.card.0
  pub reversal : IsIdentity mark.reversal

-- an account in its ranges
pub record IsAccount (name : AccountId) (row : AccountRow) : Type 0 where
  pub available : row.available ≤ 10 ^ 15
  pub currency : AreDigits 3 row.currency.0
  pub id : IsAccountId name
