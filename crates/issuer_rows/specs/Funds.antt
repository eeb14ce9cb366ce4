-- What pays for a message: its account, or the stand-in budget of its card's prefix.
use Rattle.std.specs.Prelude.{ℕ, None}
use Rattle.issuer_rows.specs.declared.funds.Funds.{Funds}
use Rattle.issuer_rows.specs.declared.funds.Funds.TheVariants as funds
use Rattle.issuer_rows.specs.declared.payer.Payer.{Payer}
use Rattle.issuer_rows.specs.declared.payer.Payer.TheVariants as payer
use Rattle.issuer_rows.specs.declared.payment.Payment.{Payment}
use Rattle.issuer_rows.specs.declared.row_key.RowKey.{RowKey}
use Rattle.issuer_rows.specs.declared.row_key.RowKey.TheVariants as key
use Rattle.issuer_rows.specs.declared.row_val.RowVal.{RowVal}
use Rattle.issuer_rows.specs.declared.row_val.RowVal.TheVariants as val

-- how much there is: what is available of the account, what is left of the budget
abbrev pub balance_of : Funds → ℕ
balance_of (funds.Account id row) = row.available
balance_of (funds.Budget prefix row) = row.left

-- the funds with another balance
abbrev pub with_balance : Funds → ℕ → Funds
with_balance (funds.Account id row) balance = funds.Account id (record row { available = balance })
with_balance (funds.Budget prefix row) balance = funds.Budget prefix (record row { left = balance })

-- their row's key
abbrev pub key_of_funds : Funds → RowKey
key_of_funds (funds.Account id row) = key.Account id
key_of_funds (funds.Budget prefix row) = key.Budget prefix

-- their row
abbrev pub row_of_funds : Funds → RowVal
row_of_funds (funds.Account id row) = val.Account row
row_of_funds (funds.Budget prefix row) = val.Budget row

-- what is kept of who paid
abbrev pub payer_of : Funds → Payer
payer_of (funds.Account id row) = payer.Account id
payer_of (funds.Budget prefix row) = payer.Budget

-- paid by these funds, and not reversed
abbrev pub paid_by : Funds → Payment
paid_by f = record { payer = payer_of f; settlement = None }
