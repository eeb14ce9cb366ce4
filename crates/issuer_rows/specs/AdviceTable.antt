-- The decision table of an authorization advice, 1120 and 1121. The first rule that applies decides; a row is looked at
-- where the first rule that needs it is reached.
use Rattle.std.specs.Prelude.{ℕ, ◌-◌, ◌==◌, ◌&&◌, nat_le, if◌then◌else◌, [], ◌∷◌, Option, Some, None}
use Rattle.iso8583.specs.declared.account_id.AccountId.{AccountId}
use Rattle.iso8583.specs.declared.advice.Advice.{Advice}
use Rattle.iso8583.specs.declared.answer.Answer.TheVariants as answer
use Rattle.iso8583.specs.declared.original_kind.OriginalKind.TheVariants as kind
use Rattle.iso8583.specs.declared.transaction.Transaction.{Transaction}
use Rattle.issuer_rows.specs.CardAccounts.{account_of}
use Rattle.issuer_rows.specs.Facts.{identity_of, prefix_of, is_same_currency, is_marked, is_of_same}
use Rattle.issuer_rows.specs.Funds.{balance_of, with_balance, key_of_funds, row_of_funds, paid_by}
use Rattle.issuer_rows.specs.Kept.{action_of_outcome}
use Rattle.issuer_rows.specs.Plan.{Plan, Writes, Answer, Look}
use Rattle.issuer_rows.specs.Typed.{card_in, budget_in, original_in, account_in}
use Rattle.issuer_rows.specs.declared.account_row.AccountRow.{AccountRow}
use Rattle.issuer_rows.specs.declared.budget_mode.BudgetMode.{BudgetMode}
use Rattle.issuer_rows.specs.declared.budget_mode.BudgetMode.TheVariants as mode
use Rattle.issuer_rows.specs.declared.budget_row.BudgetRow.{BudgetRow}
use Rattle.issuer_rows.specs.declared.card_row.CardRow.{CardRow}
use Rattle.issuer_rows.specs.declared.funds.Funds.{Funds}
use Rattle.issuer_rows.specs.declared.funds.Funds.TheVariants as funds
use Rattle.issuer_rows.specs.declared.mark.Mark.{Mark}
use Rattle.issuer_rows.specs.declared.original_row.OriginalRow.{OriginalRow}
use Rattle.issuer_rows.specs.declared.original_row.OriginalRow.TheVariants as original
use Rattle.issuer_rows.specs.declared.original_outcome.OriginalOutcome.{OriginalOutcome}
use Rattle.issuer_rows.specs.declared.original_outcome.OriginalOutcome.TheVariants as outcome
use Rattle.issuer_rows.specs.declared.reply_body.ReplyBody.{ReplyBody}
use Rattle.issuer_rows.specs.declared.reply_body.ReplyBody.TheVariants as body
use Rattle.issuer_rows.specs.declared.row_key.RowKey.TheVariants as key
use Rattle.issuer_rows.specs.declared.row_val.RowVal.{RowVal}
use Rattle.issuer_rows.specs.declared.row_val.RowVal.TheVariants as val

-- the reply to an advice: it repeats the advice's elements beside its action
abbrev pub reply_to_advice : Advice → ℕ → ReplyBody
reply_to_advice a action = body.Reply (record { transaction = a.transaction; answer = answer.Advice action a.account })

-- what is kept of an advice
abbrev pub kept_of_advice : Advice → OriginalOutcome → RowVal
kept_of_advice a o =
    val.Kept (record { card = a.transaction.pan; amount = a.transaction.amount; processing = a.transaction.processing; outcome = o })

-- an action, and nothing is written
abbrev pub answered_unkept : Advice → ℕ → Plan
answered_unkept a action = Answer (reply_to_advice a action) []

-- 900, acknowledged without liability, which is kept
abbrev pub acknowledged : Advice → Plan
acknowledged a =
    Answer (reply_to_advice a 900) ((key.Original (identity_of a.transaction), kept_of_advice a (outcome.Acknowledged 900 None)) ∷ [])

-- the advice of a mark: 900 is kept, with the reversal that came ahead
abbrev pub marked_advice : Advice → Mark → Plan
marked_advice a mark =
    Answer (reply_to_advice a 900)
    ((key.Original (identity_of a.transaction), kept_of_advice a (outcome.Acknowledged 900 (Some mark.reversal))) ∷ [])

-- The original is kept, and the amount is taken from what pays.
abbrev pub accepted_writes : Advice → Funds → Writes
accepted_writes a f =
    (key.Original (identity_of a.transaction), kept_of_advice a (outcome.Accepted (paid_by f)))
    ∷ (key_of_funds f, row_of_funds (with_balance f (balance_of f - a.transaction.amount)))
    ∷ []

-- 901, accepted with liability, with those rows
abbrev pub accepted : Advice → Funds → Plan
accepted a f = Answer (reply_to_advice a 901) (accepted_writes a f)

-- a row stands at the identity
abbrev pub advice_again : Advice → OriginalRow → Plan
-- a mark: 900 where it is of this card and of an advice; else 913, duplicate transmission
advice_again a (original.Ahead mark) = if is_marked mark a.transaction kind.Advice then marked_advice a mark else answered_unkept a 913
-- a repeat of an advice of the same card, amount and processing code: the kept action; else 913
advice_again a (original.Kept kept) =
    if a.repeat && is_of_same kept a.transaction kind.Advice then answered_unkept a (action_of_outcome kept.outcome) else answered_unkept a 913

-- the account, if there is as much available
abbrev pub account_if_covered : Transaction → AccountId → AccountRow → Option Funds
account_if_covered t id account = if nat_le t.amount account.available then Some (funds.Account id account) else None

-- a budget that stands in, if the amount is within its cap and what is left of it; else this
abbrev pub budget_by_mode : BudgetMode → Transaction → BudgetRow → Option Funds → Option Funds
budget_by_mode mode.StandIn t budget else_so =
    if nat_le t.amount budget.cap && nat_le t.amount budget.left then Some (funds.Budget (prefix_of t.pan) budget) else else_so
budget_by_mode mode.Direct t budget else_so = else_so

-- what pays for an advice, if anything does
abbrev pub advice_funds : Transaction → AccountId → AccountRow → Option BudgetRow → Option Funds
advice_funds t id account None = account_if_covered t id account
advice_funds t id account (Some budget) = budget_by_mode budget.mode t budget (account_if_covered t id account)

-- what pays was looked for
abbrev pub advice_on_funds : Advice → Option Funds → Plan
advice_on_funds a None = acknowledged a
advice_on_funds a (Some f) = accepted a f

-- what may pay is looked at: the budget of the card's prefix
abbrev pub looked_for_funds : Advice → AccountId → AccountRow → Plan
looked_for_funds a id account =
    Look (key.Budget (prefix_of a.transaction.pan)) (λ row. advice_on_funds a (advice_funds a.transaction id account (budget_in row)))

-- the account's row was looked at: 900 where there is none, or its currency is another
abbrev pub advice_on_account : Advice → AccountId → Option AccountRow → Plan
advice_on_account a id None = acknowledged a
advice_on_account a id (Some account) =
    if is_same_currency a.transaction.currency account.currency then looked_for_funds a id account else acknowledged a

-- the account that pays is known: 900 where the advice names one that is not the card's
abbrev pub advice_on_named : Advice → Option AccountId → Plan
advice_on_named a None = acknowledged a
advice_on_named a (Some id) = Look (key.Account id) (λ row. advice_on_account a id (account_in row))

-- the card's row was looked at: 900 where there is no card record
abbrev pub advice_on_card : Advice → Option CardRow → Plan
advice_on_card a None = acknowledged a
advice_on_card a (Some card) = advice_on_named a (account_of card.accounts a.account)

-- the card is looked at
abbrev pub looked_for_card : Advice → Plan
looked_for_card a = Look (key.Card a.transaction.pan) (λ row. advice_on_card a (card_in row))

-- an advice whose identity wasn't seen before: 900 where the acquirer didn't approve, and nothing else is looked at
abbrev pub fresh_advice : Advice → Plan
fresh_advice a = if a.action == 0 then looked_for_card a else acknowledged a

-- the row of its identity was looked at
abbrev pub advice_on_original : Advice → Option OriginalRow → Plan
advice_on_original a (Some row) = advice_again a row
advice_on_original a None = fresh_advice a

-- an advice: the row of its identity is looked at
abbrev pub advice_plan : Advice → Plan
advice_plan a = Look (key.Original (identity_of a.transaction)) (λ row. advice_on_original a (original_in row))
