-- The entry of a row is read again as the row.
use Rattle.std.proofs.Common.{◌≡◌, ℕ, ◌≤◌, List, Option, Some, None, IfSome, Ok, refl, lt-ltb, le-leb, eq-eqb, arith}
use Rattle.issuer_words.specs.Words.{AccountId, AccountRow, Approval, BudgetMode, BudgetRow, CardRow, CardStatus, Identity, Mark, OriginalKind, Pan, PanPrefix, VelocityRow}
use Rattle.iso8583.specs.declared.original_kind.OriginalKind.TheVariants.{Request, Advice}
use Rattle.json.specs.Tree.{depth}
use Rattle.issuer_rows.specs.declared.budget_mode.BudgetMode.TheVariants.{Direct, StandIn}
use Rattle.issuer_rows.specs.declared.card_status.CardStatus.TheVariants.{Active, Blocked, Lost, Stolen}
use Rattle.issuer_rows.specs.declared.row_key.RowKey.TheVariants as key
use Rattle.issuer_rows.specs.declared.row_val.RowVal.TheVariants as val
use Rattle.serde_json.proofs.Numbers.{number_of-decimal}
use Rattle.serde_json.specs.Read.{of_json}
use Rattle.serde_json.specs.Written.{outline}
use Rattle.book_laws.specs.Cards.{card_of}
use Rattle.book_laws.specs.Entries.{day_of, budget_of, mark_of, account_of}
use Rattle.book_laws.specs.Fields.{optional, account_id_of, approval_of, identity_of}
use Rattle.book_laws.specs.Lists.{entry_of}
use Rattle.book_laws.specs.Ranges.{IsIdentity, IsAccountId, IsApproval, IsCard, IsDayRow, IsBudget, IsMark, IsAccount}
use Rattle.book_laws.specs.Text.{ReadsBack, optional_data, account_id_data, approval_data, identity_data, card_data, day_data, budget_data, mark_data, account_data}
use Rattle.book_laws.specs.Words.{status_word, status_of, mode_word, mode_of, kind_word, kind_of}
use Rattle.book_laws.specs.declared.book_version.BookVersion.TheVariants.{Three}
use Rattle.book_laws.specs.declared.part.Part.{Part}
use Rattle.book_laws.specs.declared.row_list.RowList.TheVariants.{Cards, Days, Budgets, Ahead, Accounts}

-- ---- words

status_again : (status : CardStatus) → status_of (status_word status) ≡ Some status
status_again Active = refl
status_again Blocked = refl
status_again Lost = refl
status_again Stolen = refl

mode_again : (mode : BudgetMode) → mode_of (mode_word mode) ≡ Some mode
mode_again Direct = refl
mode_again StandIn = refl

pub kind_again : (kind : OriginalKind) → kind_of (kind_word kind) ≡ Some kind
kind_again Request = refl
kind_again Advice = refl

-- ---- what may be null

pub account_id_value : (o : Option AccountId) → of_json (outline (optional_data account_id_data o)) ≡ Some (optional_data account_id_data o)
account_id_value None = refl
account_id_value (Some id) = refl

pub approval_value : (o : Option Approval) → of_json (outline (optional_data approval_data o)) ≡ Some (optional_data approval_data o)
approval_value None = refl
approval_value (Some code) = refl

pub identity_value : (o : Option Identity) → of_json (outline (optional_data identity_data o)) ≡ Some (optional_data identity_data o)
identity_value None = refl
identity_value (Some identity) = refl

pub account_id_depth : (o : Option AccountId) → depth (outline (optional_data account_id_data o)) ≡ 0
account_id_depth None = refl
account_id_depth (Some id) = refl

pub approval_depth : (o : Option Approval) → depth (outline (optional_data approval_data o)) ≡ 0
approval_depth None = refl
approval_depth (Some code) = refl

pub identity_depth : (o : Option Identity) → depth (outline (optional_data identity_data o)) ≤ 1
identity_depth None = omega arith
identity_depth (Some identity) = omega arith

pub account_id_again : (part : Part) (o : Option AccountId) → IfSome o IsAccountId → optional (account_id_of part) (optional_data account_id_data o) ≡ Ok o
account_id_again part None h = refl
account_id_again part (Some id) h = rw (le-leb _ _ h.0, le-leb _ _ h.1, h.2) refl

pub approval_again : (part : Part) (o : Option Approval) → IfSome o IsApproval → optional (approval_of part) (optional_data approval_data o) ≡ Ok o
approval_again part None h = refl
approval_again part (Some code) h = rw (eq-eqb _ _ h.0, h.1) refl

pub identity_of_again : (part : Part) (identity : Identity) → IsIdentity identity → identity_of part (identity_data identity) ≡ Ok identity
unfolding identity_of
identity_of_again part identity h =
    rw (
      le-leb _ _ h.acquirer.0,
      le-leb _ _ h.acquirer.1,
      h.acquirer.2,
      eq-eqb _ _ h.stamp.0,
      h.stamp.1,
      h.stamp.2,
      eq-eqb _ _ h.stan.len,
      h.stan.digits,
    ) refl

pub identity_again : (part : Part) (o : Option Identity) → IfSome o IsIdentity → optional (identity_of part) (optional_data identity_data o) ≡ Ok o
identity_again part None h = refl
identity_again part (Some identity) h = rw (identity_of_again part identity h) refl

-- ---- a card

card_value : (pan : Pan) (card : CardRow) → IsCard pan card → of_json (outline (card_data pan card)) ≡ Some (card_data pan card)
card_value pan card h =
    rw (
      number_of-decimal card.approvals (omega (arith, h.approvals)),
      number_of-decimal card.day_amount (omega (arith, h.day_amount)),
      number_of-decimal card.day_count (omega (arith, h.day_count)),
      account_id_value card.accounts.second,
    ) refl

card_entry : (pan : Pan) (card : CardRow) → IsCard pan card → entry_of Three Cards (card_data pan card) ≡ Ok (key.Card pan, val.Card card)
unfolding card_of
card_entry pan card h =
    rw (
      le-leb _ _ h.account.0,
      le-leb _ _ h.account.1,
      h.account.2,
      lt-ltb _ _ h.approvals,
      le-leb _ _ h.day_amount,
      lt-ltb _ _ h.day_count,
      eq-eqb _ _ h.expiry.0,
      h.expiry.1,
      h.expiry.2,
      le-leb _ _ h.pan.0,
      le-leb _ _ h.pan.1,
      h.pan.2,
      account_id_again _ card.accounts.second h.second,
      status_again card.status,
    ) refl

pub card_again : (pan : Pan) (card : CardRow) → IsCard pan card → ReadsBack Cards (key.Card pan, val.Card card)
card_again pan card h = record {
  value = card_value pan card h;
  depth = omega (arith, account_id_depth card.accounts.second);
  entry = card_entry pan card h;
}

-- ---- a day

day_entry : (pan : Pan) (day : List ℕ) (row : VelocityRow) → IsDayRow pan day row → entry_of Three Days (day_data pan day row) ≡ Ok (key.Velocity pan day, val.Velocity row)
unfolding day_of
day_entry pan day row h =
    rw (
      lt-ltb _ _ h.count,
      eq-eqb _ _ h.day.0,
      h.day.1,
      h.day.2,
      le-leb _ _ h.pan.0,
      le-leb _ _ h.pan.1,
      h.pan.2,
      le-leb _ _ h.sum,
    ) refl

pub day_again : (pan : Pan) (day : List ℕ) (row : VelocityRow) → IsDayRow pan day row → ReadsBack Days (key.Velocity pan day, val.Velocity row)
day_again pan day row h = record {
  value = rw (number_of-decimal row.count (omega (arith, h.count)), number_of-decimal row.sum (omega (arith, h.sum))) refl;
  depth = omega arith;
  entry = day_entry pan day row h;
}

-- ---- a budget

budget_entry : (prefix : PanPrefix) (row : BudgetRow) → IsBudget prefix row → entry_of Three Budgets (budget_data prefix row) ≡ Ok (key.Budget prefix, val.Budget row)
unfolding budget_of
budget_entry prefix row h =
    rw (le-leb _ _ h.cap, le-leb _ _ h.left, mode_again row.mode, eq-eqb _ _ h.prefix.len, h.prefix.digits) refl

pub budget_again : (prefix : PanPrefix) (row : BudgetRow) → IsBudget prefix row → ReadsBack Budgets (key.Budget prefix, val.Budget row)
budget_again prefix row h = record {
  value = rw (number_of-decimal row.cap (omega (arith, h.cap)), number_of-decimal row.left (omega (arith, h.left))) refl;
  depth = omega arith;
  entry = budget_entry prefix row h;
}

-- ---- a mark

mark_entry : (identity : Identity) (mark : Mark) → IsMark identity mark → entry_of Three Ahead (mark_data identity mark) ≡ Ok (key.Original identity, val.Ahead mark)
unfolding mark_of
mark_entry identity mark h =
    rw (
      le-leb _ _ h.named.acquirer.0,
      le-leb _ _ h.named.acquirer.1,
      h.named.acquirer.2,
      kind_again mark.kind,
      le-leb _ _ h.card.0,
      le-leb _ _ h.card.1,
      h.card.2,
      identity_of_again _ mark.reversal h.reversal,
      eq-eqb _ _ h.named.stamp.0,
      h.named.stamp.1,
      h.named.stamp.2,
      eq-eqb _ _ h.named.stan.len,
      h.named.stan.digits,
    ) refl

pub mark_again : (identity : Identity) (mark : Mark) → IsMark identity mark → ReadsBack Ahead (key.Original identity, val.Ahead mark)
mark_again identity mark h = record { value = refl; depth = omega arith; entry = mark_entry identity mark h }

-- ---- an account

account_entry : (id : AccountId) (row : AccountRow) → IsAccount id row → entry_of Three Accounts (account_data id row) ≡ Ok (key.Account id, val.Account row)
unfolding account_of
account_entry id row h =
    rw (le-leb _ _ h.available, eq-eqb _ _ h.currency.len, h.currency.digits, le-leb _ _ h.id.0, le-leb _ _ h.id.1, h.id.2) refl

pub account_again : (id : AccountId) (row : AccountRow) → IsAccount id row → ReadsBack Accounts (key.Account id, val.Account row)
account_again id row h = record {
  value = rw (number_of-decimal row.available (omega (arith, h.available))) refl;
  depth = omega arith;
  entry = account_entry id row h;
}
