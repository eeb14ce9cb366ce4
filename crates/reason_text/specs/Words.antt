-- Rows, messages and replies in words. Card numbers are masked, also where an account is named by one; amounts are in minor units, and
-- times, days and months are as the book has them: YYMMDDhhmmss, YYMMDD and YYMM.
use Rattle.std.specs.Prelude.{ℕ, if◌then◌else◌, List, [], ◌++◌, Option, Some, None, codes, decimal}
use Rattle.issuer_words.specs.Words.{AccountId, AccountRow, AccountsOfCard, Advice, BudgetMode, BudgetRow, CardRow, CardStatus, CodecFault, Frame, Identity, KeptOriginal, Mark, Message, OriginalKind, OriginalOutcome, Payer, Payment, ReplyBody, Request, Reversal, ReversalScope, RowKey, RowVal, Settlement, Transaction, VelocityRow, Verdict, fault_body, fixed_digits, kind_of_outcome}
use Rattle.iso8583.specs.declared.answer.Answer.{Answer}
use Rattle.iso8583.specs.declared.answer.Answer.TheVariants as answer
use Rattle.iso8583.specs.declared.codec_fault.CodecFault.TheVariants as fault
use Rattle.iso8583.specs.declared.message.Message.TheVariants as message
use Rattle.iso8583.specs.declared.original_kind.OriginalKind.TheVariants as kind
use Rattle.iso8583.specs.declared.reversal_scope.ReversalScope.TheVariants.{Full, Partial}
use Rattle.iso8583.specs.declared.verdict.Verdict.TheVariants as verdict
use Rattle.iso_shown.specs.Masked.{masked}
use Rattle.iso_shown.specs.Shown.{shown_account}
use Rattle.iso_shown.specs.declared.card_numbers.CardNumbers.TheVariants.{Masked}
use Rattle.issuer_rows.specs.declared.budget_mode.BudgetMode.TheVariants as mode
use Rattle.issuer_rows.specs.declared.card_status.CardStatus.TheVariants as status
use Rattle.issuer_rows.specs.declared.frame.Frame.TheVariants as frame
use Rattle.issuer_rows.specs.declared.original_outcome.OriginalOutcome.TheVariants as outcome
use Rattle.issuer_rows.specs.declared.payer.Payer.TheVariants as payer
use Rattle.issuer_rows.specs.declared.reply_body.ReplyBody.TheVariants as body
use Rattle.issuer_rows.specs.declared.row_key.RowKey.TheVariants as key
use Rattle.issuer_rows.specs.declared.row_val.RowVal.TheVariants as val

-- ---- names

-- an account, masked where it is named as a card may be
abbrev pub account_words : AccountId → List ℕ
account_words id = shown_account Masked id.0

-- acquirer, trace number, time
abbrev pub identity_words : Identity → List ℕ
identity_words id = id.acquirer.0 ++ codes "/" ++ id.stan.0 ++ codes "/" ++ id.stamp

abbrev pub kind_words : OriginalKind → List ℕ
kind_words kind.Request = codes "request"
kind_words kind.Advice = codes "advice"

-- a row's key
abbrev pub key_words : RowKey → List ℕ
key_words (key.Card pan) = codes "card " ++ masked pan.0
key_words (key.Velocity pan day) = codes "day " ++ masked pan.0 ++ codes " " ++ day
key_words (key.Budget prefix) = codes "budget " ++ prefix.0
key_words (key.Original id) = codes "original " ++ identity_words id
key_words (key.Account id) = codes "account " ++ account_words id

-- ---- rows

abbrev pub status_words : CardStatus → List ℕ
status_words status.Active = codes "active"
status_words status.Blocked = codes "blocked"
status_words status.Lost = codes "lost"
status_words status.Stolen = codes "stolen"

-- another account, if there is one
abbrev pub second_words : Option AccountId → List ℕ
second_words None = []
second_words (Some id) = codes " and " ++ account_words id

abbrev pub accounts_words : AccountsOfCard → List ℕ
accounts_words accounts = account_words accounts.first ++ second_words accounts.second

abbrev pub card_words : CardRow → List ℕ
card_words c =
    status_words c.status ++ (codes ", expires " ++ (c.expiry ++ (codes ", account " ++ (accounts_words c.accounts ++ (codes ", approvals " ++ (decimal c.approvals ++ (codes ", a day at most " ++ (decimal c.day_count ++ (codes " and " ++ decimal c.day_amount)))))))))

abbrev pub day_words : VelocityRow → List ℕ
day_words d = codes "approvals " ++ decimal d.count ++ codes ", spent " ++ decimal d.sum

abbrev pub mode_words : BudgetMode → List ℕ
mode_words mode.StandIn = codes "stands in"
mode_words mode.Direct = codes "doesn't stand in"

abbrev pub budget_words : BudgetRow → List ℕ
budget_words b = mode_words b.mode ++ codes ", at most " ++ decimal b.cap ++ codes " a message, left " ++ decimal b.left

abbrev pub account_row_words : AccountRow → List ℕ
account_row_words a = codes "available " ++ decimal a.available ++ codes ", currency " ++ a.currency.0

abbrev pub payer_words : Payer → List ℕ
payer_words (payer.Account id) = codes "account " ++ account_words id
payer_words payer.Budget = codes "the budget"

-- the reversal that a message has, if it has one, and how much stays paid
abbrev pub settlement_words : Option Settlement → List ℕ
settlement_words None = []
settlement_words (Some s) = codes ", reversed by " ++ identity_words s.reversal ++ codes ", stays " ++ decimal s.stay

abbrev pub payment_words : Payment → List ℕ
payment_words p = codes "paid by " ++ payer_words p.payer ++ settlement_words p.settlement

abbrev pub reversed_words : Option Identity → List ℕ
reversed_words None = []
reversed_words (Some by) = codes ", reversed by " ++ identity_words by

-- what became of a request or an advice
abbrev pub outcome_words : OriginalOutcome → List ℕ
outcome_words (outcome.Approved code payment) = codes "answered 000, approval code " ++ code.0 ++ codes ", " ++ payment_words payment
outcome_words (outcome.Declined action by) = codes "answered " ++ fixed_digits 3 action ++ reversed_words by
outcome_words (outcome.Accepted payment) = codes "answered 901, " ++ payment_words payment
outcome_words (outcome.Acknowledged action by) = codes "answered " ++ fixed_digits 3 action ++ reversed_words by

abbrev pub kept_words : KeptOriginal → List ℕ
kept_words k =
    kind_words (kind_of_outcome k.outcome) ++ (codes " of card " ++ (masked k.card.0 ++ (codes ", amount " ++ (decimal k.amount ++ (codes ", processing code " ++ (k.processing.0 ++ (codes ", " ++ outcome_words k.outcome)))))))

abbrev pub mark_words : Mark → List ℕ
mark_words m =
    kind_words m.kind ++ (codes " of card " ++ (masked m.card.0 ++ (codes ", reversed ahead by " ++ identity_words m.reversal)))

abbrev pub row_words : RowVal → List ℕ
row_words (val.Card c) = card_words c
row_words (val.Velocity d) = day_words d
row_words (val.Budget b) = budget_words b
row_words (val.Kept k) = kept_words k
row_words (val.Ahead m) = mark_words m
row_words (val.Account a) = account_row_words a

-- what was found
abbrev pub found_words : Option RowVal → List ℕ
found_words None = codes "absent"
found_words (Some row) = row_words row

-- ---- messages and replies

-- the elements that each message has
abbrev pub transaction_words : Transaction → List ℕ
transaction_words t =
    (codes " of card " ++ (masked t.pan.0 ++ (codes ", amount " ++ (decimal t.amount ++ (codes ", currency " ++ (t.currency.0 ++ (codes ", processing code " ++ (t.processing.0 ++ (codes ", trace " ++ (t.stan.0 ++ (codes ", time " ++ t.stamp)))))))))))
    ++ (codes ", acquirer " ++ t.acquirer.0)

-- element 102
abbrev pub named_words : Option AccountId → List ℕ
named_words None = []
named_words (Some id) = codes ", account " ++ account_words id

-- elements 24 and 30
abbrev pub scope_words : ReversalScope → List ℕ
scope_words Full = codes ", in full"
scope_words (Partial amount) = codes ", in part, of " ++ decimal amount

abbrev pub request_words : Request → List ℕ
request_words r = (if r.repeat then codes "1101" else codes "1100") ++ transaction_words r.transaction ++ named_words r.account

abbrev pub advice_words : Advice → List ℕ
advice_words a =
    (if a.repeat then codes "1121" else codes "1120") ++ transaction_words a.transaction ++ codes ", action " ++ fixed_digits 3 a.action ++ named_words a.account

abbrev pub reversal_words : Reversal → List ℕ
reversal_words v =
    (if v.repeat then codes "1421" else codes "1420") ++ transaction_words v.transaction ++ codes ", of " ++ kind_words v.original.kind ++ codes " "
    ++ identity_words v.original.identity ++ scope_words v.scope

-- why a body is no message
abbrev pub fault_words : CodecFault → List ℕ
fault_words (fault.Short n) = codes "too few bytes for element " ++ decimal n
fault_words fault.BadMti = codes "unknown message type"
fault_words fault.SecondaryBitmap = codes "secondary bitmap"
fault_words (fault.Unexpected n) = codes "unexpected element " ++ decimal n
fault_words (fault.Missing n) = codes "missing element " ++ decimal n
fault_words (fault.BadLength n) = codes "bad length of element " ++ decimal n
fault_words (fault.BadCharacter n) = codes "bad character in element " ++ decimal n
fault_words fault.Trailing = codes "bytes after the last element"
fault_words (fault.BadValue n) = codes "bad value of element " ++ decimal n
fault_words fault.OutOfMemory = codes "out of memory"

abbrev pub message_words : Message → List ℕ
message_words (message.Request r) = request_words r
message_words (message.Advice a) = advice_words a
message_words (message.Reversal v) = reversal_words v

abbrev pub frame_words : Frame → List ℕ
frame_words (frame.Good m) = message_words m
frame_words (frame.Bad f) = codes "no message: " ++ fault_words f

-- what a request is answered
abbrev pub verdict_words : Verdict → List ℕ
verdict_words (verdict.Approved code) = codes "1110 000, approval code " ++ code.0
verdict_words (verdict.Declined action) = codes "1110 " ++ fixed_digits 3 action

abbrev pub answer_words : Answer → List ℕ
answer_words (answer.Request v account) = verdict_words v
answer_words (answer.Advice action account) = codes "1130 " ++ fixed_digits 3 action
answer_words (answer.Reversal action) = codes "1430 " ++ fixed_digits 3 action

abbrev pub reply_words : ReplyBody → List ℕ
reply_words (body.Reply r) = answer_words r.answer
reply_words (body.Fault f) = fault_body f
