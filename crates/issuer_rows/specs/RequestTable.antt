-- The decision table of an authorization request, 1100 and 1101. The first rule that applies decides; a row is looked at
-- where the first rule that needs it is reached.
use Rattle.std.specs.Prelude.{ℕ, ◌+◌, ◌-◌, Bool, ◌==◌, ◌&&◌, ◌||◌, not, nat_le, nat_lt, if◌then◌else◌, [], ◌∷◌, take, codes, Option, Some, None, Result, Ok, Err}
use Rattle.iso8583.specs.Luhn.{passes_luhn}
use Rattle.iso8583.specs.Number.{number_of, fixed_digits}
use Rattle.iso8583.specs.declared.account_id.AccountId.{AccountId}
use Rattle.iso8583.specs.declared.answer.Answer.TheVariants as answer
use Rattle.iso8583.specs.declared.approval.Approval.{Approval}
use Rattle.iso8583.specs.declared.original_kind.OriginalKind.TheVariants as kind
use Rattle.iso8583.specs.declared.request.Request.{Request}
use Rattle.iso8583.specs.declared.transaction.Transaction.{Transaction}
use Rattle.iso8583.specs.declared.verdict.Verdict.{Verdict}
use Rattle.iso8583.specs.declared.verdict.Verdict.TheVariants as verdict
use Rattle.issuer_rows.specs.CardAccounts.{account_of}
use Rattle.issuer_rows.specs.Facts.{identity_of, day_of, month_of, prefix_of, is_same_currency, is_marked, is_of_same}
use Rattle.issuer_rows.specs.Funds.{balance_of, with_balance, key_of_funds, row_of_funds, paid_by}
use Rattle.issuer_rows.specs.Plan.{Plan, Writes, Answer, Look}
use Rattle.issuer_rows.specs.RowKey.{text_eq}
use Rattle.issuer_rows.specs.Typed.{card_in, velocity_in, budget_in, original_in, account_in, spent_in}
use Rattle.issuer_rows.specs.declared.account_row.AccountRow.{AccountRow}
use Rattle.issuer_rows.specs.declared.budget_mode.BudgetMode.{BudgetMode}
use Rattle.issuer_rows.specs.declared.budget_mode.BudgetMode.TheVariants as mode
use Rattle.issuer_rows.specs.declared.budget_row.BudgetRow.{BudgetRow}
use Rattle.issuer_rows.specs.declared.card_row.CardRow.{CardRow}
use Rattle.issuer_rows.specs.declared.card_status.CardStatus.{CardStatus}
use Rattle.issuer_rows.specs.declared.card_status.CardStatus.TheVariants as status
use Rattle.issuer_rows.specs.declared.funds.Funds.{Funds}
use Rattle.issuer_rows.specs.declared.funds.Funds.TheVariants as funds
use Rattle.issuer_rows.specs.declared.mark.Mark.{Mark}
use Rattle.issuer_rows.specs.declared.original_row.OriginalRow.{OriginalRow}
use Rattle.issuer_rows.specs.declared.original_row.OriginalRow.TheVariants as original
use Rattle.issuer_rows.specs.declared.original_outcome.OriginalOutcome.{OriginalOutcome}
use Rattle.issuer_rows.specs.declared.original_outcome.OriginalOutcome.TheVariants as outcome
use Rattle.issuer_rows.specs.declared.reply_body.ReplyBody.{ReplyBody}
use Rattle.issuer_rows.specs.declared.reply_body.ReplyBody.TheVariants as body
use Rattle.issuer_rows.specs.declared.row_key.RowKey.TheVariants as key
use Rattle.issuer_rows.specs.declared.row_val.RowVal.{RowVal}
use Rattle.issuer_rows.specs.declared.row_val.RowVal.TheVariants as val
use Rattle.issuer_rows.specs.declared.velocity_row.VelocityRow.{VelocityRow}

-- the reply to a request: it repeats the request's elements beside its verdict
abbrev pub reply_to_request : Request → Verdict → ReplyBody
reply_to_request r verdict = body.Reply (record { transaction = r.transaction; answer = answer.Request verdict r.account })

-- what is kept of a request
abbrev pub kept_of_request : Request → OriginalOutcome → RowVal
kept_of_request r o =
    val.Kept (record { card = r.transaction.pan; amount = r.transaction.amount; processing = r.transaction.processing; outcome = o })

-- another action than 000, and nothing is written
abbrev pub declined_unkept : Request → ℕ → Plan
declined_unkept r action = Answer (reply_to_request r (verdict.Declined action)) []

-- another action than 000, which is kept
abbrev pub declined_request : Request → ℕ → Plan
declined_request r action =
    Answer (reply_to_request r (verdict.Declined action))
    ((key.Original (identity_of r.transaction), kept_of_request r (outcome.Declined action None)) ∷ [])

-- the request of a mark: 914 is kept, with the reversal that came ahead
abbrev pub marked_request : Request → Mark → Plan
marked_request r mark =
    Answer (reply_to_request r (verdict.Declined 914))
    ((key.Original (identity_of r.transaction), kept_of_request r (outcome.Declined 914 (Some mark.reversal))) ∷ [])

-- the kept approval with its code, or the kept action
abbrev pub kept_verdict : OriginalOutcome → Verdict
kept_verdict (outcome.Approved code payment) = verdict.Approved code
kept_verdict (outcome.Declined action reversal) = verdict.Declined action
kept_verdict (outcome.Accepted payment) = verdict.Declined 901
kept_verdict (outcome.Acknowledged action reversal) = verdict.Declined action

-- a row stands at the identity
abbrev pub request_again : Request → OriginalRow → Plan
-- a mark: 914 where it is of this card and of a request; else 913, duplicate transmission
request_again r (original.Ahead mark) = if is_marked mark r.transaction kind.Request then marked_request r mark else declined_unkept r 913
-- a repeat of a request of the same card, amount and processing code: the kept action and approval code; else 913
request_again r (original.Kept kept) =
    if r.repeat && is_of_same kept r.transaction kind.Request then Answer (reply_to_request r (kept_verdict kept.outcome)) [] else declined_unkept r 913

-- neither a purchase nor a withdrawal: the processing code doesn't begin with 00 or 01
abbrev pub is_unpermitted : Request → Bool
is_unpermitted r =
    not (text_eq (take 2 r.transaction.processing.0) (codes "00") || text_eq (take 2 r.transaction.processing.0) (codes "01"))

-- what a request is refused for before its card is known: 119 transaction not permitted, 110 invalid amount, 111 invalid
-- card number
abbrev pub refused_unseen : Request → Option ℕ
refused_unseen r =
    if is_unpermitted r then Some 119
    else (if r.transaction.amount == 0 then Some 110 else (if passes_luhn r.transaction.pan.0 then None else Some 111))

-- 100 blocked, 208 lost, 209 stolen
abbrev pub refused_by_status : CardStatus → Option ℕ
refused_by_status status.Active = None
refused_by_status status.Blocked = Some 100
refused_by_status status.Lost = Some 208
refused_by_status status.Stolen = Some 209

-- refused by the card's status, and else this
abbrev pub unless_status : Option ℕ → Result AccountId ℕ → Result AccountId ℕ
unless_status (Some action) else_so = Err action
unless_status None else_so = else_so

-- 119, transaction not permitted, where the message names an account that is not the card's
abbrev pub or_not_permitted : Option AccountId → Result AccountId ℕ
or_not_permitted (Some id) = Ok id
or_not_permitted None = Err 119

-- what a request is refused for by its card: its status, 101 expired, 119 the account; else the account that pays
abbrev pub usable_account : Request → CardRow → Result AccountId ℕ
usable_account r card =
    unless_status (refused_by_status card.status)
    (if nat_lt (number_of card.expiry) (number_of (month_of r.transaction.stamp)) then Err 101 else or_not_permitted (account_of card.accounts r.account))

-- what a request is refused for by the limits of its card: 123 one approval too many on that day, 121 too much money, 909
-- the card's approvals are at their greatest
abbrev pub refused_by_limits : Request → CardRow → VelocityRow → Option ℕ
refused_by_limits r card day =
    if nat_lt card.day_count (day.count + 1) then Some 123
    else (if nat_lt card.day_amount (day.sum + r.transaction.amount) then Some 121 else (if nat_le 999999 card.approvals then Some 909 else None))

-- the account, if there is as much available: else 116, not sufficient funds
abbrev pub account_funds : Transaction → AccountId → AccountRow → Result Funds ℕ
account_funds t id account = if nat_lt account.available t.amount then Err 116 else Ok (funds.Account id account)

-- the budget, if the amount is within its cap and what is left of it: else 907, issuer inoperative
abbrev pub budget_funds : Transaction → BudgetRow → Result Funds ℕ
budget_funds t budget =
    if nat_lt budget.cap t.amount || nat_lt budget.left t.amount then Err 907 else Ok (funds.Budget (prefix_of t.pan) budget)

-- a budget pays where it stands in, and else the account
abbrev pub by_mode : BudgetMode → Result Funds ℕ → Result Funds ℕ → Result Funds ℕ
by_mode mode.StandIn budget account = budget
by_mode mode.Direct budget account = account

-- what pays for a request, or what it is refused for
abbrev pub request_funds : Transaction → AccountId → AccountRow → Option BudgetRow → Result Funds ℕ
request_funds t id account None = account_funds t id account
request_funds t id account (Some budget) = by_mode budget.mode (budget_funds t budget) (account_funds t id account)

-- action 000: the card's approvals rise by one, and their new number, as six digits, is the approval code
abbrev pub approval_code : CardRow → Approval
approval_code card = record { 0 = fixed_digits 6 (card.approvals + 1) }

-- the card's row after an approval
abbrev pub approved_card : CardRow → CardRow
approved_card card = record card { approvals = card.approvals + 1 }

-- the day after an approval
abbrev pub spent_more : VelocityRow → ℕ → VelocityRow
spent_more day amount = record { count = day.count + 1; sum = day.sum + amount }

-- The original is kept, the card's approvals and its day rise, and the amount is taken from what pays.
abbrev pub approved_writes : Request → CardRow → VelocityRow → Funds → Writes
approved_writes r card day f =
    (key.Original (identity_of r.transaction), kept_of_request r (outcome.Approved (approval_code card) (paid_by f)))
    ∷ (key.Card r.transaction.pan, val.Card (approved_card card))
    ∷ (key.Velocity r.transaction.pan (day_of r.transaction.stamp), val.Velocity (spent_more day r.transaction.amount))
    ∷ (key_of_funds f, row_of_funds (with_balance f (balance_of f - r.transaction.amount)))
    ∷ []

-- 000, with those rows
abbrev pub approved : Request → CardRow → VelocityRow → Funds → Plan
approved r card day f = Answer (reply_to_request r (verdict.Approved (approval_code card))) (approved_writes r card day f)

-- refused where there is an action, and else this
abbrev pub unless_refused : Request → Option ℕ → Plan → Plan
unless_refused r (Some action) next = declined_request r action
unless_refused r None next = next

-- what pays was looked for
abbrev pub on_funds : Request → CardRow → VelocityRow → Result Funds ℕ → Plan
on_funds r card day (Err action) = declined_request r action
on_funds r card day (Ok f) = approved r card day f

-- what may pay is looked at: the budget of the card's prefix
abbrev pub looked_for_funds : Request → CardRow → AccountId → AccountRow → VelocityRow → Plan
looked_for_funds r card id account day =
    Look (key.Budget (prefix_of r.transaction.pan)) (λ row. on_funds r card day (request_funds r.transaction id account (budget_in row)))

-- what was spent on the day is known
abbrev pub on_day : Request → CardRow → AccountId → AccountRow → VelocityRow → Plan
on_day r card id account day = unless_refused r (refused_by_limits r card day) (looked_for_funds r card id account day)

-- the account is in the request's currency: its day is looked at
abbrev pub looked_for_day : Request → CardRow → AccountId → AccountRow → Plan
looked_for_day r card id account =
    Look (key.Velocity r.transaction.pan (day_of r.transaction.stamp)) (λ row. on_day r card id account (spent_in (velocity_in row)))

-- the account's row was looked at: 909 where there is none, 100 where its currency is another
abbrev pub on_account : Request → CardRow → AccountId → Option AccountRow → Plan
on_account r card id None = declined_request r 909
on_account r card id (Some account) =
    if is_same_currency r.transaction.currency account.currency then looked_for_day r card id account else declined_request r 100

-- the account that pays is known, or what the card refuses the request for
abbrev pub on_usable : Request → CardRow → Result AccountId ℕ → Plan
on_usable r card (Err action) = declined_request r action
on_usable r card (Ok id) = Look (key.Account id) (λ row. on_account r card id (account_in row))

-- the card's row was looked at: 118 where there is no card record
abbrev pub on_card : Request → Option CardRow → Plan
on_card r None = declined_request r 118
on_card r (Some card) = on_usable r card (usable_account r card)

-- the card is looked at
abbrev pub looked_for_card : Request → Plan
looked_for_card r = Look (key.Card r.transaction.pan) (λ row. on_card r (card_in row))

-- a request whose identity wasn't seen before
abbrev pub fresh_request : Request → Plan
fresh_request r = unless_refused r (refused_unseen r) (looked_for_card r)

-- the row of its identity was looked at
abbrev pub on_original : Request → Option OriginalRow → Plan
on_original r (Some row) = request_again r row
on_original r None = fresh_request r

-- a request: the row of its identity is looked at
abbrev pub request_plan : Request → Plan
request_plan r = Look (key.Original (identity_of r.transaction)) (λ row. on_original r (original_in row))
