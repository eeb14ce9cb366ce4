-- The table of a request, stage by stage, and its flat list of conditions are one.
use Rattle.std.proofs.Common.{◌≡◌, ℕ, ◌+◌, Bool, true, false, ◌&&◌, ◌==◌, not, nat_lt, nat_le, if◌then◌else◌, [], ◌∷◌, Option, Some, None, is_none, option_and_then, Result, Ok, Err, refl, subst}
use Rattle.std.specs.FinMap as map
use Rattle.issuer_words.specs.Words.{AccountId, AccountRow, BudgetMode, BudgetRow, CardRow, CardStatus, Funds, KeptOriginal, Mark, OriginalKind, OriginalRow, Request, RowKey, Rows, VelocityRow, account_in, account_of, budget_in, card_in, day_of, decision, identity_of, is_marked, is_of_same, is_same_currency, month_of, number_of, original_in, passes_luhn, prefix_of, spent_in, velocity_in}
use Rattle.issuer_rows.specs.Plan.{Plan, Lookup, Answer}
use Rattle.issuer_rows.specs.RequestTable.{reply_to_request, kept_verdict, declined_unkept, declined_request, marked_request, approved, is_unpermitted, refused_by_status, unless_status, or_not_permitted, by_mode, account_funds, unless_refused, request_funds, on_funds, looked_for_funds, looked_for_day, on_account, on_usable, on_card, looked_for_card, on_original}
use Rattle.issuer_laws.specs.Messages.{request_frame}
use Rattle.issuer_laws.specs.Rules.{Conditions, decided_by, Facts, first_of, comes_to, named_by, has, is_blocked, is_lost, is_stolen, stands_in, is_over, request_rule, RequestEnds, RequestIsDecided}
use Rattle.issuer_laws.specs.declared.decision_rule.DecisionRule.{DecisionRule}

-- what a plan comes to is what this rule says
abbrev Ends : Request → Facts → DecisionRule → Plan → Lookup → Type 0
Ends r f rule plan look = (end : Plan) × RequestEnds r f rule end × (comes_to plan look ≡ comes_to end look)

-- what is known of a request whose identity wasn't seen
abbrev fresh : Option CardRow → Option AccountId → Option AccountRow → VelocityRow → Option BudgetRow → Facts
fresh card named account day budget = record { seen = None; card = card; named = named; account = account; day = day; budget = budget }

-- the account pays, if there is as much
by_account : (r : Request) (card : CardRow) (id : AccountId) (account : AccountRow) (day : VelocityRow) (budget : Option BudgetRow) (look : Lookup) (short : Bool) → Ends r (fresh (Some card) (Some id) (Some account) day budget) (first_of ((DecisionRule.NotSufficientFunds, short) ∷ []) DecisionRule.AccountPays) (on_funds r card day (if short then Err 116 else Ok (Funds.Account id account))) look
by_account r card id account day budget look true = (declined_request r 116, refl, refl)
by_account r card id account day budget look false =
    (approved r card day (Funds.Account id account), (id, account, refl, refl, record { card = card; there = refl; paid = refl }), refl)

-- a budget that stands in pays, if it can
by_budget : (r : Request) (card : CardRow) (id : AccountId) (account : AccountRow) (day : VelocityRow) (budget : BudgetRow) (look : Lookup) (over : Bool) → Ends r (fresh (Some card) (Some id) (Some account) day (Some budget)) (first_of ((DecisionRule.BudgetRefuses, over) ∷ []) DecisionRule.BudgetPays) (on_funds r card day (if over then Err 907 else Ok (Funds.Budget (prefix_of r.transaction.pan) budget))) look
by_budget r card id account day budget look true = (declined_request r 907, refl, refl)
by_budget r card id account day budget look false =
    (approved r card day (Funds.Budget (prefix_of r.transaction.pan) budget), (budget, refl, record { card = card; there = refl; paid = refl }), refl)

-- what is asked once the limits of the card are kept
abbrev funds_conditions : ℕ → BudgetRow → Bool → Bool → Conditions
funds_conditions amount budget stand_in short =
    (DecisionRule.BudgetRefuses, stand_in && is_over amount budget) ∷ (DecisionRule.BudgetPays, stand_in) ∷ (DecisionRule.NotSufficientFunds, short) ∷ []

standing_in : (r : Request) (card : CardRow) (id : AccountId) (account : AccountRow) (day : VelocityRow) (budget : BudgetRow) (look : Lookup) (over short : Bool) → Ends r (fresh (Some card) (Some id) (Some account) day (Some budget)) (first_of ((DecisionRule.BudgetRefuses, over) ∷ (DecisionRule.BudgetPays, true) ∷ (DecisionRule.NotSufficientFunds, short) ∷ []) DecisionRule.AccountPays) (on_funds r card day (if over then Err 907 else Ok (Funds.Budget (prefix_of r.transaction.pan) budget))) look
standing_in r card id account day budget look true short = by_budget r card id account day budget look true
standing_in r card id account day budget look false short = by_budget r card id account day budget look false

by_funds : (r : Request) (card : CardRow) (id : AccountId) (account : AccountRow) (day : VelocityRow) (budget : BudgetRow) (look : Lookup) (mode : BudgetMode) → Ends r (fresh (Some card) (Some id) (Some account) day (Some budget)) (first_of (funds_conditions r.transaction.amount budget (stands_in mode) (nat_lt account.available r.transaction.amount)) DecisionRule.AccountPays) (on_funds r card day (by_mode mode (if is_over r.transaction.amount budget then Err 907 else Ok (Funds.Budget (prefix_of r.transaction.pan) budget)) (account_funds r.transaction id account))) look
by_funds r card id account day budget look BudgetMode.StandIn =
    standing_in r card id account day budget look (is_over r.transaction.amount budget) (nat_lt account.available r.transaction.amount)
by_funds r card id account day budget look BudgetMode.Direct = by_account r card id account day (Some budget) look (nat_lt account.available r.transaction.amount)

abbrev budget_conditions : Request → Facts → Conditions
budget_conditions r f =
    (DecisionRule.BudgetRefuses, has (λ (b : BudgetRow). stands_in b.mode && is_over r.transaction.amount b) f.budget)
    ∷ (DecisionRule.BudgetPays, has (λ (b : BudgetRow). stands_in b.mode) f.budget)
    ∷ (DecisionRule.NotSufficientFunds, has (λ (a : AccountRow). nat_lt a.available r.transaction.amount) f.account)
    ∷ []

with_budget : (r : Request) (card : CardRow) (id : AccountId) (account : AccountRow) (day : VelocityRow) (look : Lookup) (budget : Option BudgetRow) → Ends r (fresh (Some card) (Some id) (Some account) day budget) (first_of (budget_conditions r (fresh (Some card) (Some id) (Some account) day budget)) DecisionRule.AccountPays) (on_funds r card day (request_funds r.transaction id account budget)) look
with_budget r card id account day look None = by_account r card id account day None look (nat_lt account.available r.transaction.amount)
with_budget r card id account day look (Some budget) = by_funds r card id account day budget look budget.mode

-- the limits of the card
limited : (r : Request) (card : CardRow) (id : AccountId) (account : AccountRow) (day : VelocityRow) (budget : Option BudgetRow) (look : Lookup) (count sum approvals : Bool) (next : Plan) (rest : Conditions) → Ends r (fresh (Some card) (Some id) (Some account) day budget) (first_of rest DecisionRule.AccountPays) next look → Ends r (fresh (Some card) (Some id) (Some account) day budget) (first_of ((DecisionRule.TooManyApprovals, count) ∷ (DecisionRule.TooMuchMoney, sum) ∷ (DecisionRule.ApprovalsExhausted, approvals) ∷ rest) DecisionRule.AccountPays) (unless_refused r (if count then Some 123 else (if sum then Some 121 else (if approvals then Some 909 else None))) next) look
limited r card id account day budget look true sum approvals next rest h = (declined_request r 123, refl, refl)
limited r card id account day budget look false true approvals next rest h = (declined_request r 121, refl, refl)
limited r card id account day budget look false false true next rest h = (declined_request r 909, refl, refl)
limited r card id account day budget look false false false next rest h = h

-- the currency of the account
in_currency : (r : Request) (card : CardRow) (id : AccountId) (account : AccountRow) (day : VelocityRow) (budget : Option BudgetRow) (look : Lookup) (same : Bool) (next : Plan) (rest : Conditions) → Ends r (fresh (Some card) (Some id) (Some account) day budget) (first_of rest DecisionRule.AccountPays) next look → Ends r (fresh (Some card) (Some id) (Some account) day budget) (first_of ((DecisionRule.OtherCurrency, not same) ∷ rest) DecisionRule.AccountPays) (if same then next else declined_request r 100) look
in_currency r card id account day budget look true next rest h = h
in_currency r card id account day budget look false next rest h = (declined_request r 100, refl, refl)

abbrev limit_conditions : Request → Facts → Conditions
limit_conditions r f =
    (DecisionRule.TooManyApprovals, has (λ (c : CardRow). nat_lt c.day_count (f.day.count + 1)) f.card)
    ∷ (DecisionRule.TooMuchMoney, has (λ (c : CardRow). nat_lt c.day_amount (f.day.sum + r.transaction.amount)) f.card)
    ∷ (DecisionRule.ApprovalsExhausted, has (λ (c : CardRow). nat_le 999999 c.approvals) f.card)
    ∷ budget_conditions r f

abbrev account_conditions : Request → Facts → Conditions
account_conditions r f =
    (DecisionRule.NoAccount, is_none f.account)
    ∷ (DecisionRule.OtherCurrency, has (λ (a : AccountRow). not (is_same_currency r.transaction.currency a.currency)) f.account)
    ∷ limit_conditions r f

-- what was spent on the day, and the budget of the prefix, as a request's rows are looked up
abbrev day_of_request : Request → Lookup → VelocityRow
day_of_request r look = spent_in (velocity_in (look (RowKey.Velocity r.transaction.pan (day_of r.transaction.stamp))))

abbrev budget_of_request : Request → Lookup → Option BudgetRow
budget_of_request r look = budget_in (look (RowKey.Budget (prefix_of r.transaction.pan)))

on_account_ends : (r : Request) (card : CardRow) (id : AccountId) (look : Lookup) (account : Option AccountRow) → Ends r (fresh (Some card) (Some id) account (day_of_request r look) (budget_of_request r look)) (first_of (account_conditions r (fresh (Some card) (Some id) account (day_of_request r look) (budget_of_request r look))) DecisionRule.AccountPays) (on_account r card id account) look
on_account_ends r card id look None = (declined_request r 909, refl, refl)
on_account_ends r card id look (Some account) =
    let day = day_of_request r look in
    let budget = budget_of_request r look in
    let f = fresh (Some card) (Some id) (Some account) (day_of_request r look) (budget_of_request r look) in
    in_currency r card id account day budget look (is_same_currency r.transaction.currency account.currency) (looked_for_day r card id account) (limit_conditions r f)
    (limited r card id account day budget look (nat_lt card.day_count (day.count + 1)) (nat_lt card.day_amount (day.sum + r.transaction.amount)) (nat_le 999999 card.approvals) (looked_for_funds r card id account day) (budget_conditions r f)
    (with_budget r card id account day look budget))

-- the account that is asked to pay, of a card
abbrev account_of_request : Lookup → Option AccountId → Option AccountRow
account_of_request look named = option_and_then (λ (id : AccountId). account_in (look (RowKey.Account id))) named

abbrev named_conditions : Request → Facts → Conditions
named_conditions r f = (DecisionRule.NotOfCard, is_none f.named) ∷ account_conditions r f

on_named_ends : (r : Request) (card : CardRow) (look : Lookup) (named : Option AccountId) → Ends r (fresh (Some card) named (account_of_request look named) (day_of_request r look) (budget_of_request r look)) (first_of (named_conditions r (fresh (Some card) named (account_of_request look named) (day_of_request r look) (budget_of_request r look))) DecisionRule.AccountPays) (on_usable r card (or_not_permitted named)) look
on_named_ends r card look None = (declined_request r 119, refl, refl)
on_named_ends r card look (Some id) = on_account_ends r card id look (account_in (look (RowKey.Account id)))

-- the card
expiring : (r : Request) (card : CardRow) (f : Facts) (look : Lookup) (expired : Bool) (named : Result AccountId ℕ) (rest : Conditions) → Ends r f (first_of rest DecisionRule.AccountPays) (on_usable r card named) look → Ends r f (first_of ((DecisionRule.CardExpired, expired) ∷ rest) DecisionRule.AccountPays) (on_usable r card (if expired then Err 101 else named)) look
expiring r card f look true named rest h = (declined_request r 101, refl, refl)
expiring r card f look false named rest h = h

by_status : (r : Request) (card : CardRow) (f : Facts) (look : Lookup) (status : CardStatus) (usable : Result AccountId ℕ) (rest : Conditions) → Ends r f (first_of rest DecisionRule.AccountPays) (on_usable r card usable) look → Ends r f (first_of ((DecisionRule.CardBlocked, is_blocked status) ∷ (DecisionRule.CardLost, is_lost status) ∷ (DecisionRule.CardStolen, is_stolen status) ∷ rest) DecisionRule.AccountPays) (on_usable r card (unless_status (refused_by_status status) usable)) look
by_status r card f look CardStatus.Active usable rest h = h
by_status r card f look CardStatus.Blocked usable rest h = (declined_request r 100, refl, refl)
by_status r card f look CardStatus.Lost usable rest h = (declined_request r 208, refl, refl)
by_status r card f look CardStatus.Stolen usable rest h = (declined_request r 209, refl, refl)

abbrev expiry_conditions : Request → Facts → Conditions
expiry_conditions r f =
    (DecisionRule.CardExpired, has (λ (c : CardRow). nat_lt (number_of c.expiry) (number_of (month_of r.transaction.stamp))) f.card) ∷ named_conditions r f

abbrev card_conditions : Request → Facts → Conditions
card_conditions r f =
    (DecisionRule.NoCard, is_none f.card)
    ∷ (DecisionRule.CardBlocked, has (λ (c : CardRow). is_blocked c.status) f.card)
    ∷ (DecisionRule.CardLost, has (λ (c : CardRow). is_lost c.status) f.card)
    ∷ (DecisionRule.CardStolen, has (λ (c : CardRow). is_stolen c.status) f.card)
    ∷ expiry_conditions r f

-- the facts of a request whose identity wasn't seen, of this card
abbrev facts_with : Request → Lookup → Option OriginalRow → Option CardRow → Facts
facts_with r look seen card = record {
  seen = seen;
  card = card;
  named = named_by r.account card;
  account = account_of_request look (named_by r.account card);
  day = day_of_request r look;
  budget = budget_of_request r look;
}

on_card_ends : (r : Request) (look : Lookup) (card : Option CardRow) → Ends r (facts_with r look None card) (first_of (card_conditions r (facts_with r look None card)) DecisionRule.AccountPays) (on_card r card) look
on_card_ends r look None = (declined_request r 118, refl, refl)
on_card_ends r look (Some card) =
    let f = facts_with r look None (Some card) in
    by_status r card f look card.status (if nat_lt (number_of card.expiry) (number_of (month_of r.transaction.stamp)) then Err 101 else or_not_permitted (account_of card.accounts r.account)) (expiry_conditions r f)
    (expiring r card f look (nat_lt (number_of card.expiry) (number_of (month_of r.transaction.stamp))) (or_not_permitted (account_of card.accounts r.account)) (named_conditions r f)
    (on_named_ends r card look (account_of card.accounts r.account)))

-- what is refused before the card is known
unseen_card : (r : Request) (f : Facts) (look : Lookup) (unpermitted nothing passes : Bool) (next : Plan) (rest : Conditions) → Ends r f (first_of rest DecisionRule.AccountPays) next look → Ends r f (first_of ((DecisionRule.NotPermitted, unpermitted) ∷ (DecisionRule.NoAmount, nothing) ∷ (DecisionRule.WrongCardNumber, not passes) ∷ rest) DecisionRule.AccountPays) (unless_refused r (if unpermitted then Some 119 else (if nothing then Some 110 else (if passes then None else Some 111))) next) look
unseen_card r f look true nothing passes next rest h = (declined_request r 119, refl, refl)
unseen_card r f look false true passes next rest h = (declined_request r 110, refl, refl)
unseen_card r f look false false true next rest h = h
unseen_card r f look false false false next rest h = (declined_request r 111, refl, refl)

-- the row at its identity
marked_ends : (r : Request) (mark : Mark) (f : Facts) (look : Lookup) (own : Bool) (rest : Conditions) → f.seen ≡ Some (OriginalRow.Ahead mark) → Ends r f (first_of ((DecisionRule.ReversedAhead, own) ∷ (DecisionRule.MarkOfAnother, true) ∷ rest) DecisionRule.AccountPays) (if own then marked_request r mark else declined_unkept r 913) look
marked_ends r mark f look true rest e = (marked_request r mark, (mark, e, refl), refl)
marked_ends r mark f look false rest e = (declined_unkept r 913, refl, refl)

kept_ends : (r : Request) (kept : KeptOriginal) (f : Facts) (look : Lookup) (same again : Bool) (rest : Conditions) → f.seen ≡ Some (OriginalRow.Kept kept) → Ends r f (first_of ((DecisionRule.Repeat, same && again) ∷ (DecisionRule.Duplicate, true) ∷ rest) DecisionRule.AccountPays) (if again && same then Answer (reply_to_request r (kept_verdict kept.outcome)) [] else declined_unkept r 913) look
kept_ends r kept f look true true rest e = (Answer (reply_to_request r (kept_verdict kept.outcome)) [], (kept, e, refl), refl)
kept_ends r kept f look true false rest e = (declined_unkept r 913, refl, refl)
kept_ends r kept f look false true rest e = (declined_unkept r 913, refl, refl)
kept_ends r kept f look false false rest e = (declined_unkept r 913, refl, refl)

abbrev unseen_conditions : Request → Facts → Conditions
unseen_conditions r f =
    (DecisionRule.NotPermitted, is_unpermitted r)
    ∷ (DecisionRule.NoAmount, r.transaction.amount == 0)
    ∷ (DecisionRule.WrongCardNumber, not (passes_luhn r.transaction.pan.0))
    ∷ card_conditions r f

on_original_ends : (r : Request) (look : Lookup) (seen : Option OriginalRow) (card : Option CardRow) → card_in (look (RowKey.Card r.transaction.pan)) ≡ card → Ends r (facts_with r look seen card) (request_rule r (facts_with r look seen card)) (on_original r seen) look
on_original_ends r look (Some (OriginalRow.Ahead mark)) card e =
    marked_ends r mark (facts_with r look (Some (OriginalRow.Ahead mark)) card) look (is_marked mark r.transaction OriginalKind.Request)
    ((DecisionRule.Repeat, false) ∷ (DecisionRule.Duplicate, true) ∷ unseen_conditions r (facts_with r look (Some (OriginalRow.Ahead mark)) card)) refl
on_original_ends r look (Some (OriginalRow.Kept kept)) card e =
    kept_ends r kept (facts_with r look (Some (OriginalRow.Kept kept)) card) look (is_of_same kept r.transaction OriginalKind.Request) r.repeat
    (unseen_conditions r (facts_with r look (Some (OriginalRow.Kept kept)) card)) refl
on_original_ends r look None card e =
    unseen_card r (facts_with r look None card) look (is_unpermitted r) (r.transaction.amount == 0) (passes_luhn r.transaction.pan.0) (looked_for_card r) (card_conditions r (facts_with r look None card))
    (subst (λ (c : Option CardRow). Ends r (facts_with r look None c) (first_of (card_conditions r (facts_with r look None c)) DecisionRule.AccountPays) (looked_for_card r) look) e
    (on_card_ends r look (card_in (look (RowKey.Card r.transaction.pan)))))

-- a request is decided by the first rule of its list that holds
pub request_decided : (rows : Rows) (r : Request) → RequestIsDecided rows r (decided_by rows (request_frame r))
unfolding decision
request_decided rows r = on_original_ends r (map.get rows) (original_in (map.get rows (RowKey.Original (identity_of r.transaction)))) (card_in (map.get rows (RowKey.Card r.transaction.pan))) refl
