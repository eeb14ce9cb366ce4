-- What stands behind an account and behind a prefix: what is there, and what stays paid of the originals that it paid for.
use Rattle.std.specs.Prelude.{ℕ, ◌+◌, Bool, true, false, ◌&&◌, if◌then◌else◌, Option, Some, None}
use Rattle.std.specs.List.{sum_by}
use Rattle.std.specs.FinMap as map
use Rattle.iso8583.specs.declared.account_id.AccountId.{AccountId}
use Rattle.iso8583.specs.declared.pan_prefix.PanPrefix.{PanPrefix}
use Rattle.issuer_rows.specs.CardAccounts.{is_same_account}
use Rattle.issuer_rows.specs.Facts.{prefix_of}
use Rattle.issuer_rows.specs.Fold.{Rows}
use Rattle.issuer_rows.specs.Kept.{KeptOriginal, payment_of_outcome, stay_of}
use Rattle.issuer_rows.specs.RowKey.{text_eq}
use Rattle.issuer_rows.specs.Typed.{account_in, budget_in}
use Rattle.issuer_rows.specs.declared.account_row.AccountRow.{AccountRow}
use Rattle.issuer_rows.specs.declared.budget_row.BudgetRow.{BudgetRow}
use Rattle.issuer_rows.specs.declared.payer.Payer.{Payer}
use Rattle.issuer_rows.specs.declared.payer.Payer.TheVariants as payer
use Rattle.issuer_rows.specs.declared.payment.Payment.{Payment}
use Rattle.issuer_rows.specs.declared.row_key.RowKey.{RowKey}
use Rattle.issuer_rows.specs.declared.row_key.RowKey.TheVariants as key
use Rattle.issuer_rows.specs.declared.row_val.RowVal.{RowVal}
use Rattle.issuer_rows.specs.declared.row_val.RowVal.TheVariants as val

-- the original that a row keeps, if it keeps one
abbrev pub kept_in : RowKey → RowVal → Option KeptOriginal
kept_in (key.Original identity) (val.Kept k) = Some k
kept_in _ _ = None

-- this account is the payer
abbrev pub is_account : AccountId → Payer → Bool
is_account id (payer.Account paid) = is_same_account paid id
is_account id payer.Budget = false

-- the budget is the payer
abbrev pub is_budget : Payer → Bool
is_budget (payer.Account paid) = false
is_budget payer.Budget = true

-- this account paid
abbrev pub account_paid : AccountId → Option Payment → Bool
account_paid id None = false
account_paid id (Some payment) = is_account id payment.payer

-- the budget paid
abbrev pub budget_paid : Option Payment → Bool
budget_paid None = false
budget_paid (Some payment) = is_budget payment.payer

-- the original was paid from this account
abbrev pub is_from_account : AccountId → KeptOriginal → Bool
is_from_account id k = account_paid id (payment_of_outcome k.outcome)

-- the original was paid from the budget, and its card is of this prefix
abbrev pub is_from_budget : PanPrefix → KeptOriginal → Bool
is_from_budget prefix k = budget_paid (payment_of_outcome k.outcome) && text_eq (prefix_of k.card).0 prefix.0

-- what stays paid of an original, if there is one and it is one of these
abbrev pub stay_if : (KeptOriginal → Bool) → Option KeptOriginal → ℕ
stay_if is_one None = 0
stay_if is_one (Some k) = if is_one k then stay_of k else 0

-- what stays paid of these originals
abbrev pub stays : (KeptOriginal → Bool) → Rows → ℕ
stays is_one rows = sum_by (λ row. stay_if is_one (kept_in row.0 row.1)) (map.entries rows)

-- what is available: nothing of an account that isn't there
abbrev pub available_in : Option AccountRow → ℕ
available_in None = 0
available_in (Some account) = account.available

-- what is left: nothing of a budget that isn't there
abbrev pub left_in : Option BudgetRow → ℕ
left_in None = 0
left_in (Some budget) = budget.left

-- an account's backing: what is available, and what stays paid of the originals that were paid from it
abbrev pub backing_of_account : Rows → AccountId → ℕ
backing_of_account rows id = available_in (account_in (map.get rows (key.Account id))) + stays (is_from_account id) rows

-- a prefix's backing: what is left of its budget, and what stays paid of its originals that were paid from the budget
abbrev pub backing_of_prefix : Rows → PanPrefix → ℕ
backing_of_prefix rows prefix = left_in (budget_in (map.get rows (key.Budget prefix))) + stays (is_from_budget prefix) rows
