-- The decision tables as flat lists of conditions, in the order in which they are asked. The first that holds names the rule, and the
-- rule says what is answered and written.
use Rattle.std.specs.Prelude.{◌≡◌, ◌≢◌, ℕ, ◌+◌, Bool, true, false, ◌&&◌, ◌||◌, ◌==◌, not, nat_lt, nat_le, List, [], ◌∷◌, Option, Some, None, is_some, is_none, option_and_then, option_map, if◌then◌else◌}
use Rattle.std.specs.FinMap as map
use Rattle.issuer_words.specs.Words.{AccountId, AccountRow, Advice, BudgetMode, BudgetRow, CardRow, CardStatus, Frame, Funds, Identity, KeptOriginal, Mark, Message, OriginalKind, OriginalRow, Pan, Payer, Payment, ReplyBody, Request, Reversal, RowKey, RowVal, Rows, Transaction, VelocityRow, accepted, account_in, account_of, acknowledged, action_of_outcome, advice_back, answered_unkept, approved, balance_of, budget_in, card_in, day_key, day_of, declined_request, declined_unkept, given_back, greatest_balance, identity_of, is_marked, is_named, is_of_same, is_same_currency, is_same_identity, is_same_kind, is_unpermitted, is_wrong_part, kept_verdict, kind_of_outcome, marked_advice, marked_ahead, marked_request, month_of, number_of, original_in, original_put, passes_luhn, payment_of_outcome, prefix_of, reply_of, reply_to_request, reply_to_reversal, request_back, reversal_of_outcome, settled, spent_in, takes_approval, unchanged, velocity_in, writes_of}
use Rattle.issuer_rows.specs.Plan.{Plan, Lookup, Writes, Answer, carried_out}
use Rattle.issuer_laws.specs.Messages.{request_frame, advice_frame, reversal_frame}
use Rattle.issuer_laws.specs.Reconciled.{is_answered}
use Rattle.issuer_laws.specs.declared.decision_rule.DecisionRule.{DecisionRule}

-- reply and rows that a plan comes to
abbrev pub comes_to : Plan → Lookup → ReplyBody × Writes
comes_to p look = ((carried_out p look).reply, (carried_out p look).writes)

-- rules, each with whether its condition holds
abbrev pub Conditions : Type 0
Conditions = List (DecisionRule × Bool)

-- the first rule whose condition holds, and else this one
abbrev pub first_of : Conditions → DecisionRule → DecisionRule
first_of [] last = last
first_of (c ∷ cs) last = if c.1 then c.0 else first_of cs last

-- there is a row, and it is so
abbrev pub has : {A : Type 0} → (A → Bool) → Option A → Bool
has test None = false
has test (Some x) = test x

-- ---- what stands in the book

-- what a new message of a card is decided by
pub record Facts : Type 0 where
  pub seen : Option OriginalRow
  pub card : Option CardRow
  pub named : Option AccountId
  pub account : Option AccountRow
  pub day : VelocityRow
  pub budget : Option BudgetRow

-- the account that is asked to pay: the one that the message names, if it is the card's, and else the card's first
abbrev pub named_by : Option AccountId → Option CardRow → Option AccountId
named_by element card = option_and_then (λ (c : CardRow). account_of c.accounts element) card

-- the rows of a message, of its card and of the account that it names
abbrev pub facts_of : Rows → Transaction → Option AccountId → Facts
facts_of rows t element =
    let card = card_in (map.get rows (RowKey.Card t.pan)) in
    record {
      seen = original_in (map.get rows (RowKey.Original (identity_of t)));
      card = card;
      named = named_by element card;
      account = option_and_then (λ (id : AccountId). account_in (map.get rows (RowKey.Account id))) (named_by element card);
      day = spent_in (velocity_in (map.get rows (RowKey.Velocity t.pan (day_of t.stamp))));
      budget = budget_in (map.get rows (RowKey.Budget (prefix_of t.pan)));
    }

-- ---- conditions

-- the mark of a reversal of this message
abbrev pub is_own_mark : Transaction → OriginalKind → OriginalRow → Bool
is_own_mark t k (OriginalRow.Ahead mark) = is_marked mark t k
is_own_mark t k (OriginalRow.Kept kept) = false

-- the mark of a reversal
abbrev pub is_mark : OriginalRow → Bool
is_mark (OriginalRow.Ahead mark) = true
is_mark (OriginalRow.Kept kept) = false

-- what is kept of a message of the same kind, card, amount and processing code
abbrev pub is_same_kept : Transaction → OriginalKind → OriginalRow → Bool
is_same_kept t k (OriginalRow.Ahead mark) = false
is_same_kept t k (OriginalRow.Kept kept) = is_of_same kept t k

abbrev pub is_blocked : CardStatus → Bool
is_blocked CardStatus.Blocked = true
is_blocked CardStatus.Active = false
is_blocked CardStatus.Lost = false
is_blocked CardStatus.Stolen = false

abbrev pub is_lost : CardStatus → Bool
is_lost CardStatus.Lost = true
is_lost CardStatus.Active = false
is_lost CardStatus.Blocked = false
is_lost CardStatus.Stolen = false

abbrev pub is_stolen : CardStatus → Bool
is_stolen CardStatus.Stolen = true
is_stolen CardStatus.Active = false
is_stolen CardStatus.Blocked = false
is_stolen CardStatus.Lost = false

-- the budget stands in for the account
abbrev pub stands_in : BudgetMode → Bool
stands_in BudgetMode.StandIn = true
stands_in BudgetMode.Direct = false

-- a message of this amount is over the budget's cap or over what is left of it
abbrev pub is_over : ℕ → BudgetRow → Bool
is_over amount budget = nat_lt budget.cap amount || nat_lt budget.left amount

-- ---- requests, 1100 and 1101

abbrev pub request_conditions : Request → Facts → Conditions
request_conditions r f =
    (DecisionRule.ReversedAhead, has (is_own_mark r.transaction OriginalKind.Request) f.seen)
    ∷ (DecisionRule.MarkOfAnother, has is_mark f.seen)
    ∷ (DecisionRule.Repeat, has (is_same_kept r.transaction OriginalKind.Request) f.seen && r.repeat)
    ∷ (DecisionRule.Duplicate, is_some f.seen)
    ∷ (DecisionRule.NotPermitted, is_unpermitted r)
    ∷ (DecisionRule.NoAmount, r.transaction.amount == 0)
    ∷ (DecisionRule.WrongCardNumber, not (passes_luhn r.transaction.pan.0))
    ∷ (DecisionRule.NoCard, is_none f.card)
    ∷ (DecisionRule.CardBlocked, has (λ (c : CardRow). is_blocked c.status) f.card)
    ∷ (DecisionRule.CardLost, has (λ (c : CardRow). is_lost c.status) f.card)
    ∷ (DecisionRule.CardStolen, has (λ (c : CardRow). is_stolen c.status) f.card)
    ∷ (DecisionRule.CardExpired, has (λ (c : CardRow). nat_lt (number_of c.expiry) (number_of (month_of r.transaction.stamp))) f.card)
    ∷ (DecisionRule.NotOfCard, is_none f.named)
    ∷ (DecisionRule.NoAccount, is_none f.account)
    ∷ (DecisionRule.OtherCurrency, has (λ (a : AccountRow). not (is_same_currency r.transaction.currency a.currency)) f.account)
    ∷ (DecisionRule.TooManyApprovals, has (λ (c : CardRow). nat_lt c.day_count (f.day.count + 1)) f.card)
    ∷ (DecisionRule.TooMuchMoney, has (λ (c : CardRow). nat_lt c.day_amount (f.day.sum + r.transaction.amount)) f.card)
    ∷ (DecisionRule.ApprovalsExhausted, has (λ (c : CardRow). nat_le 999999 c.approvals) f.card)
    ∷ (DecisionRule.BudgetRefuses, has (λ (b : BudgetRow). stands_in b.mode && is_over r.transaction.amount b) f.budget)
    ∷ (DecisionRule.BudgetPays, has (λ (b : BudgetRow). stands_in b.mode) f.budget)
    ∷ (DecisionRule.NotSufficientFunds, has (λ (a : AccountRow). nat_lt a.available r.transaction.amount) f.account)
    ∷ []

-- the rule of a request: where none of these holds, the account pays
abbrev pub request_rule : Request → Facts → DecisionRule
request_rule r f = first_of (request_conditions r f) DecisionRule.AccountPays

-- a request that is paid: its card is there, and pays with it
pub record IsPaidRequest (r : Request) (f : Facts) (paying : Funds) (end : Plan) : Type 0 where
  pub card : CardRow
  pub there : f.card ≡ Some card
  pub paid : end ≡ approved r card f.day paying

-- what a request is answered, and what is written, by each rule
abbrev pub RequestEnds : Request → Facts → DecisionRule → Plan → Type 0
RequestEnds r f DecisionRule.ReversedAhead end = (mark : Mark) × (f.seen ≡ Some (OriginalRow.Ahead mark)) × (end ≡ marked_request r mark)
RequestEnds r f DecisionRule.Repeat end =
    (kept : KeptOriginal) × (f.seen ≡ Some (OriginalRow.Kept kept)) × (end ≡ Answer (reply_to_request r (kept_verdict kept.outcome)) [])
RequestEnds r f DecisionRule.MarkOfAnother end = end ≡ declined_unkept r 913
RequestEnds r f DecisionRule.Duplicate end = end ≡ declined_unkept r 913
RequestEnds r f DecisionRule.NotPermitted end = end ≡ declined_request r 119
RequestEnds r f DecisionRule.NoAmount end = end ≡ declined_request r 110
RequestEnds r f DecisionRule.WrongCardNumber end = end ≡ declined_request r 111
RequestEnds r f DecisionRule.NoCard end = end ≡ declined_request r 118
RequestEnds r f DecisionRule.CardBlocked end = end ≡ declined_request r 100
RequestEnds r f DecisionRule.CardLost end = end ≡ declined_request r 208
RequestEnds r f DecisionRule.CardStolen end = end ≡ declined_request r 209
RequestEnds r f DecisionRule.CardExpired end = end ≡ declined_request r 101
RequestEnds r f DecisionRule.NotOfCard end = end ≡ declined_request r 119
RequestEnds r f DecisionRule.NoAccount end = end ≡ declined_request r 909
RequestEnds r f DecisionRule.OtherCurrency end = end ≡ declined_request r 100
RequestEnds r f DecisionRule.TooManyApprovals end = end ≡ declined_request r 123
RequestEnds r f DecisionRule.TooMuchMoney end = end ≡ declined_request r 121
RequestEnds r f DecisionRule.ApprovalsExhausted end = end ≡ declined_request r 909
RequestEnds r f DecisionRule.BudgetRefuses end = end ≡ declined_request r 907
RequestEnds r f DecisionRule.BudgetPays end =
    (budget : BudgetRow) × (f.budget ≡ Some budget) × IsPaidRequest r f (Funds.Budget (prefix_of r.transaction.pan) budget) end
RequestEnds r f DecisionRule.NotSufficientFunds end = end ≡ declined_request r 116
RequestEnds r f DecisionRule.AccountPays end =
    (id : AccountId) × (account : AccountRow) × (f.named ≡ Some id) × (f.account ≡ Some account) × IsPaidRequest r f (Funds.Account id account) end
RequestEnds r f _ end = ⊥

-- a request is decided by this rule
abbrev pub RequestIsDecided : Rows → Request → DecisionRule → Type 0
RequestIsDecided rows r rule =
    let f = facts_of rows r.transaction r.account in
    (end : Plan) × RequestEnds r f rule end × ((reply_of rows (request_frame r), writes_of rows (request_frame r)) ≡ comes_to end (map.get rows))

-- ---- advices, 1120 and 1121

-- the amount is within the budget's cap and what is left of it
abbrev pub covers : ℕ → BudgetRow → Bool
covers amount budget = nat_le amount budget.cap && nat_le amount budget.left

abbrev pub advice_conditions : Advice → Facts → Conditions
advice_conditions a f =
    (DecisionRule.ReversedAhead, has (is_own_mark a.transaction OriginalKind.Advice) f.seen)
    ∷ (DecisionRule.MarkOfAnother, has is_mark f.seen)
    ∷ (DecisionRule.Repeat, has (is_same_kept a.transaction OriginalKind.Advice) f.seen && a.repeat)
    ∷ (DecisionRule.Duplicate, is_some f.seen)
    ∷ (DecisionRule.NotApproved, not (a.action == 0))
    ∷ (DecisionRule.NoCard, is_none f.card)
    ∷ (DecisionRule.NotOfCard, is_none f.named)
    ∷ (DecisionRule.NoAccount, is_none f.account)
    ∷ (DecisionRule.OtherCurrency, has (λ (acc : AccountRow). not (is_same_currency a.transaction.currency acc.currency)) f.account)
    ∷ (DecisionRule.BudgetPays, has (λ (b : BudgetRow). stands_in b.mode && covers a.transaction.amount b) f.budget)
    ∷ (DecisionRule.AccountPays, has (λ (acc : AccountRow). nat_le a.transaction.amount acc.available) f.account)
    ∷ []

-- the rule of an advice: where none of these holds, less is available than the amount
abbrev pub advice_rule : Advice → Facts → DecisionRule
advice_rule a f = first_of (advice_conditions a f) DecisionRule.NotSufficientFunds

-- what an advice is answered, and what is written, by each rule
abbrev pub AdviceEnds : Advice → Facts → DecisionRule → Plan → Type 0
AdviceEnds a f DecisionRule.ReversedAhead end = (mark : Mark) × (f.seen ≡ Some (OriginalRow.Ahead mark)) × (end ≡ marked_advice a mark)
AdviceEnds a f DecisionRule.Repeat end =
    (kept : KeptOriginal) × (f.seen ≡ Some (OriginalRow.Kept kept)) × (end ≡ answered_unkept a (action_of_outcome kept.outcome))
AdviceEnds a f DecisionRule.MarkOfAnother end = end ≡ answered_unkept a 913
AdviceEnds a f DecisionRule.Duplicate end = end ≡ answered_unkept a 913
AdviceEnds a f DecisionRule.NotApproved end = end ≡ acknowledged a
AdviceEnds a f DecisionRule.NoCard end = end ≡ acknowledged a
AdviceEnds a f DecisionRule.NotOfCard end = end ≡ acknowledged a
AdviceEnds a f DecisionRule.NoAccount end = end ≡ acknowledged a
AdviceEnds a f DecisionRule.OtherCurrency end = end ≡ acknowledged a
AdviceEnds a f DecisionRule.BudgetPays end =
    (budget : BudgetRow) × (f.budget ≡ Some budget) × (end ≡ accepted a (Funds.Budget (prefix_of a.transaction.pan) budget))
AdviceEnds a f DecisionRule.AccountPays end =
    (id : AccountId) × (account : AccountRow) × (f.named ≡ Some id) × (f.account ≡ Some account) × (end ≡ accepted a (Funds.Account id account))
AdviceEnds a f DecisionRule.NotSufficientFunds end = end ≡ acknowledged a
AdviceEnds a f _ end = ⊥

-- an advice is decided by this rule
abbrev pub AdviceIsDecided : Rows → Advice → DecisionRule → Type 0
AdviceIsDecided rows a rule =
    let f = facts_of rows a.transaction a.account in
    (end : Plan) × AdviceEnds a f rule end × ((reply_of rows (advice_frame a), writes_of rows (advice_frame a)) ≡ comes_to end (map.get rows))

-- ---- reversals, 1420 and 1421

-- what a reversal is decided by: the row of its original, the row that paid for it, and the original's day
pub record ReversalFacts : Type 0 where
  pub seen : Option OriginalRow
  pub paid : Option Funds
  pub day : Option VelocityRow

-- the row of who paid for an original of this card
abbrev pub row_of_payer : Lookup → Pan → Payer → Option Funds
row_of_payer look card (Payer.Account id) = option_map (Funds.Account id) (account_in (look (RowKey.Account id)))
row_of_payer look card Payer.Budget = option_map (Funds.Budget (prefix_of card)) (budget_in (look (RowKey.Budget (prefix_of card))))

-- the row that paid for it, if it was paid
abbrev pub row_that_paid : Lookup → Option OriginalRow → Option Funds
row_that_paid look None = None
row_that_paid look (Some (OriginalRow.Ahead mark)) = None
row_that_paid look (Some (OriginalRow.Kept k)) = option_and_then (λ (p : Payment). row_of_payer look k.card p.payer) (payment_of_outcome k.outcome)

-- the day that a request was spent on
abbrev pub day_of_row : Lookup → Reversal → Option OriginalRow → Option VelocityRow
day_of_row look v None = None
day_of_row look v (Some (OriginalRow.Ahead mark)) = None
day_of_row look v (Some (OriginalRow.Kept k)) = velocity_in (look (day_key v k))

abbrev pub reversal_facts : Lookup → Reversal → Option OriginalRow → ReversalFacts
reversal_facts look v seen = record { seen = seen; paid = row_that_paid look seen; day = day_of_row look v seen }

abbrev pub reversal_facts_of : Rows → Reversal → ReversalFacts
reversal_facts_of rows v = reversal_facts (map.get rows) v (original_in (map.get rows (RowKey.Original v.original.identity)))

-- what is kept is so
abbrev pub is_kept_so : (KeptOriginal → Bool) → OriginalRow → Bool
is_kept_so test (OriginalRow.Ahead mark) = false
is_kept_so test (OriginalRow.Kept k) = test k

-- a request is kept
abbrev pub is_request : KeptOriginal → Bool
is_request k = is_same_kind (kind_of_outcome k.outcome) OriginalKind.Request

-- this message is the reversal that it has
abbrev pub is_reversed_by : Reversal → KeptOriginal → Bool
is_reversed_by v k = has (λ (by : Identity). is_same_identity by (identity_of v.transaction)) (reversal_of_outcome k.outcome)

-- what a reversal of this row gives back
abbrev pub gives_back : Reversal → Option OriginalRow → ℕ
gives_back v None = 0
gives_back v (Some (OriginalRow.Ahead mark)) = 0
gives_back v (Some (OriginalRow.Kept k)) = given_back v k

abbrev pub reversal_conditions : Reversal → ReversalFacts → Conditions
reversal_conditions v f =
    (DecisionRule.NoOriginal, is_none f.seen)
    ∷ (DecisionRule.MarkedBefore, has is_mark f.seen)
    ∷ (DecisionRule.OtherOriginal, has (is_kept_so (λ (k : KeptOriginal). not (is_named v k))) f.seen)
    ∷ (DecisionRule.ReversalRepeat, has (is_kept_so (is_reversed_by v)) f.seen && v.repeat)
    ∷ (DecisionRule.ReversedBefore, has (is_kept_so (λ (k : KeptOriginal). is_some (reversal_of_outcome k.outcome))) f.seen)
    ∷ (DecisionRule.NotPosted, has (is_kept_so (λ (k : KeptOriginal). is_none (payment_of_outcome k.outcome))) f.seen)
    ∷ (DecisionRule.WrongPart, has (is_kept_so (λ (k : KeptOriginal). is_wrong_part v.scope v.transaction.amount k.amount)) f.seen)
    ∷ (DecisionRule.NoPayer, is_none f.paid)
    ∷ (DecisionRule.NoDay, has (is_kept_so is_request) f.seen && is_none f.day)
    ∷ (DecisionRule.BalanceTooGreat, has (λ (paid : Funds). nat_lt greatest_balance (balance_of paid + gives_back v f.seen)) f.paid)
    ∷ (DecisionRule.DayTooShort, has (is_kept_so is_request) f.seen && has (λ (day : VelocityRow). (takes_approval v.scope && (day.count == 0)) || nat_lt day.sum (gives_back v f.seen)) f.day)
    ∷ []

-- the rule of a reversal: where none of these holds, the money goes back
abbrev pub reversal_rule : Reversal → ReversalFacts → DecisionRule
reversal_rule v f = first_of (reversal_conditions v f) DecisionRule.GivenBack

-- the money of a request goes back to what paid and out of its day; that of an advice to what paid alone
abbrev pub EndsGivenBack : OriginalKind → Reversal → KeptOriginal → Funds → Option VelocityRow → Plan → Type 0
EndsGivenBack OriginalKind.Request v k paid None end = ⊥
EndsGivenBack OriginalKind.Request v k paid (Some day) end = end ≡ Answer (reply_to_reversal v 400) (request_back v k paid day)
EndsGivenBack OriginalKind.Advice v k paid day end = end ≡ Answer (reply_to_reversal v 400) (advice_back v k paid)

-- what a reversal is answered, and what is written, by each rule
abbrev pub ReversalEnds : Reversal → ReversalFacts → DecisionRule → Plan → Type 0
ReversalEnds v f DecisionRule.NoOriginal end = end ≡ marked_ahead v
ReversalEnds v f DecisionRule.MarkedBefore end = end ≡ unchanged v 914
ReversalEnds v f DecisionRule.OtherOriginal end = end ≡ unchanged v 914
ReversalEnds v f DecisionRule.ReversalRepeat end = end ≡ unchanged v 400
ReversalEnds v f DecisionRule.ReversedBefore end = end ≡ unchanged v 913
ReversalEnds v f DecisionRule.NotPosted end =
    (k : KeptOriginal) × (f.seen ≡ Some (OriginalRow.Kept k))
    × (end ≡ Answer (reply_to_reversal v 400) (original_put v (RowVal.Kept (settled k (identity_of v.transaction) 0)) ∷ []))
ReversalEnds v f DecisionRule.WrongPart end = end ≡ unchanged v 110
ReversalEnds v f DecisionRule.NoPayer end = end ≡ unchanged v 914
ReversalEnds v f DecisionRule.NoDay end = end ≡ unchanged v 914
ReversalEnds v f DecisionRule.BalanceTooGreat end = end ≡ unchanged v 909
ReversalEnds v f DecisionRule.DayTooShort end = end ≡ unchanged v 909
ReversalEnds v f DecisionRule.GivenBack end =
    (k : KeptOriginal) × (paid : Funds) × (f.seen ≡ Some (OriginalRow.Kept k)) × (f.paid ≡ Some paid)
    × EndsGivenBack (kind_of_outcome k.outcome) v k paid f.day end
ReversalEnds v f _ end = ⊥

-- a reversal is decided by this rule
abbrev pub ReversalIsDecided : Rows → Reversal → DecisionRule → Type 0
ReversalIsDecided rows v rule =
    let f = reversal_facts_of rows v in
    (end : Plan) × ReversalEnds v f rule end × ((reply_of rows (reversal_frame v), writes_of rows (reversal_frame v)) ≡ comes_to end (map.get rows))

-- ---- all messages

-- the rule that decides a body
abbrev pub decided_by : Rows → Frame → DecisionRule
decided_by rows (Frame.Good (Message.Request r)) = request_rule r (facts_of rows r.transaction r.account)
decided_by rows (Frame.Good (Message.Advice a)) = advice_rule a (facts_of rows a.transaction a.account)
decided_by rows (Frame.Good (Message.Reversal v)) = reversal_rule v (reversal_facts_of rows v)
decided_by rows (Frame.Bad fault) = DecisionRule.NoMessage

-- a body is answered, and rows are written, as this rule says: one that is no message is answered its fault, and writes nothing
abbrev pub IsDecidedBy : Rows → Frame → DecisionRule → Type 0
IsDecidedBy rows (Frame.Good (Message.Request r)) rule = RequestIsDecided rows r rule
IsDecidedBy rows (Frame.Good (Message.Advice a)) rule = AdviceIsDecided rows a rule
IsDecidedBy rows (Frame.Good (Message.Reversal v)) rule = ReversalIsDecided rows v rule
IsDecidedBy rows (Frame.Bad fault) rule =
    (rule ≡ DecisionRule.NoMessage) × (reply_of rows (Frame.Bad fault) ≡ ReplyBody.Fault fault) × (writes_of rows (Frame.Bad fault) ≡ [])

-- money is paid by the rule
abbrev pub pays : DecisionRule → Bool
pays DecisionRule.BudgetPays = true
pays DecisionRule.AccountPays = true
pays _ = false

-- a request is answered 000 exactly where its rule pays; a repeat apart, which is answered what was answered first
abbrev pub IsApprovedWherePaid : Rows → Request → Type 0
IsApprovedWherePaid rows r =
    let rule = decided_by rows (request_frame r) in
    rule ≢ DecisionRule.Repeat → is_answered 0 (reply_of rows (request_frame r)) ≡ pays rule
