-- The decision table of a reversal advice, 1420 and 1421. The first rule that applies decides; a row is looked at where the
-- first rule that needs it is reached.
use Rattle.std.specs.Prelude.{ℕ, ◌+◌, ◌-◌, Bool, true, false, ◌==◌, ◌&&◌, ◌||◌, not, nat_lt, if◌then◌else◌, [], ◌∷◌, Option, Some, None, option_map}
use Rattle.iso8583.specs.declared.answer.Answer.TheVariants as answer
use Rattle.iso8583.specs.declared.identity.Identity.{Identity}
use Rattle.iso8583.specs.declared.original_kind.OriginalKind.{OriginalKind}
use Rattle.iso8583.specs.declared.original_kind.OriginalKind.TheVariants as kind
use Rattle.iso8583.specs.declared.reversal.Reversal.{Reversal}
use Rattle.iso8583.specs.declared.reversal_scope.ReversalScope.{ReversalScope}
use Rattle.iso8583.specs.declared.reversal_scope.ReversalScope.TheVariants as scope
use Rattle.issuer_rows.specs.Facts.{identity_of, day_of, prefix_of, is_same_card, is_same_identity, is_same_kind}
use Rattle.issuer_rows.specs.Funds.{balance_of, with_balance, key_of_funds, row_of_funds}
use Rattle.issuer_rows.specs.Kept.{KeptOriginal, kind_of_outcome, payment_of_outcome, reversal_of_outcome, settled}
use Rattle.issuer_rows.specs.Plan.{Plan, Writes, Answer, Look}
use Rattle.issuer_rows.specs.Typed.{velocity_in, budget_in, original_in, account_in}
use Rattle.issuer_rows.specs.declared.funds.Funds.{Funds}
use Rattle.issuer_rows.specs.declared.funds.Funds.TheVariants as funds
use Rattle.issuer_rows.specs.declared.original_row.OriginalRow.{OriginalRow}
use Rattle.issuer_rows.specs.declared.original_row.OriginalRow.TheVariants as original
use Rattle.issuer_rows.specs.declared.payer.Payer.{Payer}
use Rattle.issuer_rows.specs.declared.payer.Payer.TheVariants as payer
use Rattle.issuer_rows.specs.declared.payment.Payment.{Payment}
use Rattle.issuer_rows.specs.declared.reply_body.ReplyBody.{ReplyBody}
use Rattle.issuer_rows.specs.declared.reply_body.ReplyBody.TheVariants as body
use Rattle.issuer_rows.specs.declared.row_key.RowKey.{RowKey}
use Rattle.issuer_rows.specs.declared.row_key.RowKey.TheVariants as key
use Rattle.issuer_rows.specs.declared.row_val.RowVal.{RowVal}
use Rattle.issuer_rows.specs.declared.row_val.RowVal.TheVariants as val
use Rattle.issuer_rows.specs.declared.velocity_row.VelocityRow.{VelocityRow}

-- the reply to a reversal: it repeats the reversal's elements beside its action
abbrev pub reply_to_reversal : Reversal → ℕ → ReplyBody
reply_to_reversal r action = body.Reply (record { transaction = r.transaction; answer = answer.Reversal action })

-- an action, and nothing is written
abbrev pub unchanged : Reversal → ℕ → Plan
unchanged r action = Answer (reply_to_reversal r action) []

-- the row of the original that the reversal names
abbrev pub original_put : Reversal → RowVal → RowKey × RowVal
original_put r value = (key.Original r.original.identity, value)

-- 914, not able to trace back to the original: a mark is written, with this card, the kind that is named, and this message
abbrev pub marked_ahead : Reversal → Plan
marked_ahead r =
    Answer (reply_to_reversal r 914)
    (original_put r (val.Ahead (record { card = r.transaction.pan; kind = r.original.kind; reversal = identity_of r.transaction })) ∷ [])

-- how much of an original's amount is given back: all of it, or what is over the amount of a partial reversal
abbrev pub difference : ReversalScope → ℕ → ℕ → ℕ
difference scope.Full own amount = amount
difference (scope.Partial claimed) own amount = amount - own

-- a partial reversal that names another amount of the original, or leaves no less than that
abbrev pub is_wrong_part : ReversalScope → ℕ → ℕ → Bool
is_wrong_part scope.Full own amount = false
is_wrong_part (scope.Partial claimed) own amount = not (claimed == amount) || not (nat_lt own amount)

-- how much of this original the reversal gives back
abbrev pub given_back : Reversal → KeptOriginal → ℕ
given_back r k = difference r.scope r.transaction.amount k.amount

-- the most that an account or a budget may have
abbrev pub greatest_balance : ℕ
greatest_balance = 1000000000000000

-- the original, reversed by this message
abbrev pub reversed_original : Reversal → KeptOriginal → RowKey × RowVal
reversed_original r k = original_put r (val.Kept (settled k (identity_of r.transaction) (k.amount - given_back r k)))

-- the row that paid, with the difference given back
abbrev pub refunded : Reversal → KeptOriginal → Funds → RowKey × RowVal
refunded r k paid = (key_of_funds paid, row_of_funds (with_balance paid (balance_of paid + given_back r k)))

-- one approval less for a full reversal, none less for a partial one
abbrev pub count_left : ReversalScope → ℕ → ℕ
count_left scope.Full count = count - 1
count_left (scope.Partial claimed) count = count

-- the day of the original, less what is given back
abbrev pub spent_less : Reversal → KeptOriginal → VelocityRow → VelocityRow
spent_less r k day = record { count = count_left r.scope day.count; sum = day.sum - given_back r k }

-- the key of the original's day
abbrev pub day_key : Reversal → KeptOriginal → RowKey
day_key r k = key.Velocity k.card (day_of r.original.identity.stamp)

-- a full reversal takes an approval from the day
abbrev pub takes_approval : ReversalScope → Bool
takes_approval scope.Full = true
takes_approval (scope.Partial claimed) = false

-- the day has no approval to take, or less money than is given back
abbrev pub day_is_short : Reversal → KeptOriginal → VelocityRow → Bool
day_is_short r k day = (takes_approval r.scope && (day.count == 0)) || nat_lt day.sum (given_back r k)

-- what paid would have more than it may
abbrev pub is_overfull : Reversal → KeptOriginal → Funds → Bool
is_overfull r k paid = nat_lt greatest_balance (balance_of paid + given_back r k)

-- The difference goes back to the row that paid, and out of what stays of the advice.
abbrev pub advice_back : Reversal → KeptOriginal → Funds → Writes
advice_back r k paid = reversed_original r k ∷ refunded r k paid ∷ []

-- The difference goes back to the row that paid, out of what stays of the request, and out of its day.
abbrev pub request_back : Reversal → KeptOriginal → Funds → VelocityRow → Writes
request_back r k paid day = reversed_original r k ∷ (day_key r k, val.Velocity (spent_less r k day)) ∷ refunded r k paid ∷ []

-- an advice: 909 where what paid would have more than it may, else 400
abbrev pub reversed_advice : Reversal → KeptOriginal → Funds → Plan
reversed_advice r k paid = if is_overfull r k paid then unchanged r 909 else Answer (reply_to_reversal r 400) (advice_back r k paid)

-- the day's row was looked at: 914 where there is none, 909 where what paid would have more than it may or the day is short,
-- else 400
abbrev pub on_original_day : Reversal → KeptOriginal → Funds → Option VelocityRow → Plan
on_original_day r k paid None = unchanged r 914
on_original_day r k paid (Some day) =
    if is_overfull r k paid then unchanged r 909
    else (if day_is_short r k day then unchanged r 909 else Answer (reply_to_reversal r 400) (request_back r k paid day))

-- the original's day is looked at
abbrev pub looked_for_day : Reversal → KeptOriginal → Funds → Plan
looked_for_day r k paid = Look (day_key r k) (λ row. on_original_day r k paid (velocity_in row))

-- what is done by the kind of the original: a request was spent on a day
abbrev pub by_kind : OriginalKind → Reversal → KeptOriginal → Funds → Plan
by_kind kind.Request r k paid = looked_for_day r k paid
by_kind kind.Advice r k paid = reversed_advice r k paid

-- the row that paid was looked at: 914 where there is none
abbrev pub on_paid : Reversal → KeptOriginal → Option Funds → Plan
on_paid r k None = unchanged r 914
on_paid r k (Some paid) = by_kind (kind_of_outcome k.outcome) r k paid

-- what paid is looked at
abbrev pub by_payer : Reversal → KeptOriginal → Payer → Plan
by_payer r k (payer.Account id) = Look (key.Account id) (λ row. on_paid r k (option_map (funds.Account id) (account_in row)))
by_payer r k payer.Budget =
    Look (key.Budget (prefix_of k.card)) (λ row. on_paid r k (option_map (funds.Budget (prefix_of k.card)) (budget_in row)))

-- an original without a reversal. One that wasn't posted: 400, and it is kept that it is reversed; a wrong part: 110, invalid
-- amount
abbrev pub on_payment : Reversal → KeptOriginal → Option Payment → Plan
on_payment r k None =
    Answer (reply_to_reversal r 400) (original_put r (val.Kept (settled k (identity_of r.transaction) 0)) ∷ [])
on_payment r k (Some payment) =
    if is_wrong_part r.scope r.transaction.amount k.amount then unchanged r 110 else by_payer r k payment.payer

-- an original that has a reversal: 400 where this message is that reversal's repeat, else 913, duplicate transmission
abbrev pub on_reversal : Reversal → KeptOriginal → Option Identity → Plan
on_reversal r k (Some by) = if r.repeat && is_same_identity by (identity_of r.transaction) then unchanged r 400 else unchanged r 913
on_reversal r k None = on_payment r k (payment_of_outcome k.outcome)

-- the original is of this card and of the kind that is named
abbrev pub is_named : Reversal → KeptOriginal → Bool
is_named r k = is_same_card k.card r.transaction.pan && is_same_kind (kind_of_outcome k.outcome) r.original.kind

-- the original is kept: 914 where its card or its kind is another
abbrev pub on_kept : Reversal → KeptOriginal → Plan
on_kept r k = if is_named r k then on_reversal r k (reversal_of_outcome k.outcome) else unchanged r 914

-- the original's row was looked at. None: 914 and a mark; a mark: 914
abbrev pub on_reversed : Reversal → Option OriginalRow → Plan
on_reversed r None = marked_ahead r
on_reversed r (Some (original.Ahead mark)) = unchanged r 914
on_reversed r (Some (original.Kept k)) = on_kept r k

-- a reversal: the row of the original that it names is looked at
abbrev pub reversal_plan : Reversal → Plan
reversal_plan r = Look (key.Original r.original.identity) (λ row. on_reversed r (original_in row))
