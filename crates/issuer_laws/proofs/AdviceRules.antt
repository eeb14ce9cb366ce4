-- The table of an advice, stage by stage, and its flat list of conditions are one.
use Rattle.std.proofs.Common.{◌≡◌, Bool, true, false, ◌&&◌, ◌==◌, not, nat_le, if◌then◌else◌, [], ◌∷◌, Option, Some, None, is_none, option_and_then, refl, subst}
use Rattle.std.specs.FinMap as map
use Rattle.issuer_words.specs.Words.{AccountId, AccountRow, Advice, BudgetMode, BudgetRow, CardRow, Funds, KeptOriginal, Lookup, Mark, OriginalKind, OriginalRow, Plan, RowKey, Rows, VelocityRow, account_in, account_of, action_of_outcome, budget_in, card_in, day_of, decision, identity_of, is_marked, is_of_same, is_same_currency, original_in, prefix_of, spent_in, velocity_in}
use Rattle.issuer_rows.specs.AdviceTable.{answered_unkept, acknowledged, marked_advice, accepted, account_if_covered, budget_by_mode, advice_funds, advice_on_funds, looked_for_funds, advice_on_account, advice_on_named, advice_on_card, looked_for_card, advice_on_original}
use Rattle.issuer_laws.specs.Messages.{advice_frame}
use Rattle.issuer_laws.specs.Rules.{Conditions, decided_by, Facts, first_of, comes_to, has, named_by, stands_in, covers, advice_rule, AdviceEnds, AdviceIsDecided}
use Rattle.issuer_laws.specs.declared.decision_rule.DecisionRule.{DecisionRule}

-- what a plan comes to is what this rule says
abbrev Ends : Advice → Facts → DecisionRule → Plan → Lookup → Type 0
Ends a f rule plan look = (end : Plan) × AdviceEnds a f rule end × (comes_to plan look ≡ comes_to end look)

-- the facts of an advice, of this card and of the account that it is asked to pay from
abbrev facts_with : Advice → Lookup → Option OriginalRow → Option CardRow → Option AccountId → Facts
facts_with a look seen card named = record {
  seen = seen;
  card = card;
  named = named;
  account = option_and_then (λ (id : AccountId). account_in (look (RowKey.Account id))) named;
  day = spent_in (velocity_in (look (RowKey.Velocity a.transaction.pan (day_of a.transaction.stamp))));
  budget = budget_in (look (RowKey.Budget (prefix_of a.transaction.pan)));
}

-- those of one that comes to its account
abbrev fresh : Option CardRow → Option AccountId → Option AccountRow → VelocityRow → Option BudgetRow → Facts
fresh card named account day budget = record { seen = None; card = card; named = named; account = account; day = day; budget = budget }

by_account : (a : Advice) (card : CardRow) (id : AccountId) (account : AccountRow) (day : VelocityRow) (budget : Option BudgetRow) (look : Lookup) (enough : Bool) → Ends a (fresh (Some card) (Some id) (Some account) day budget) (first_of ((DecisionRule.AccountPays, enough) ∷ []) DecisionRule.NotSufficientFunds) (advice_on_funds a (if enough then Some (Funds.Account id account) else None)) look
by_account a card id account day budget look true = (accepted a (Funds.Account id account), (id, account, refl, refl, refl), refl)
by_account a card id account day budget look false = (acknowledged a, refl, refl)

by_budget : (a : Advice) (card : CardRow) (id : AccountId) (account : AccountRow) (day : VelocityRow) (budget : BudgetRow) (look : Lookup) (covered enough : Bool) → Ends a (fresh (Some card) (Some id) (Some account) day (Some budget)) (first_of ((DecisionRule.BudgetPays, covered) ∷ (DecisionRule.AccountPays, enough) ∷ []) DecisionRule.NotSufficientFunds) (advice_on_funds a (if covered then Some (Funds.Budget (prefix_of a.transaction.pan) budget) else (if enough then Some (Funds.Account id account) else None))) look
by_budget a card id account day budget look true enough = (accepted a (Funds.Budget (prefix_of a.transaction.pan) budget), (budget, refl, refl), refl)
by_budget a card id account day budget look false enough = by_account a card id account day (Some budget) look enough

by_mode : (a : Advice) (card : CardRow) (id : AccountId) (account : AccountRow) (day : VelocityRow) (budget : BudgetRow) (look : Lookup) (mode : BudgetMode) → Ends a (fresh (Some card) (Some id) (Some account) day (Some budget)) (first_of ((DecisionRule.BudgetPays, stands_in mode && covers a.transaction.amount budget) ∷ (DecisionRule.AccountPays, nat_le a.transaction.amount account.available) ∷ []) DecisionRule.NotSufficientFunds) (advice_on_funds a (budget_by_mode mode a.transaction budget (account_if_covered a.transaction id account))) look
by_mode a card id account day budget look BudgetMode.StandIn = by_budget a card id account day budget look (covers a.transaction.amount budget) (nat_le a.transaction.amount account.available)
by_mode a card id account day budget look BudgetMode.Direct = by_account a card id account day (Some budget) look (nat_le a.transaction.amount account.available)

abbrev funds_conditions : Advice → Facts → Conditions
funds_conditions a f =
    (DecisionRule.BudgetPays, has (λ (b : BudgetRow). stands_in b.mode && covers a.transaction.amount b) f.budget)
    ∷ (DecisionRule.AccountPays, has (λ (acc : AccountRow). nat_le a.transaction.amount acc.available) f.account)
    ∷ []

with_budget : (a : Advice) (card : CardRow) (id : AccountId) (account : AccountRow) (day : VelocityRow) (look : Lookup) (budget : Option BudgetRow) → Ends a (fresh (Some card) (Some id) (Some account) day budget) (first_of (funds_conditions a (fresh (Some card) (Some id) (Some account) day budget)) DecisionRule.NotSufficientFunds) (advice_on_funds a (advice_funds a.transaction id account budget)) look
with_budget a card id account day look None = by_account a card id account day None look (nat_le a.transaction.amount account.available)
with_budget a card id account day look (Some budget) = by_mode a card id account day budget look budget.mode

in_currency : (a : Advice) (f : Facts) (look : Lookup) (same : Bool) (next : Plan) (rest : Conditions) → Ends a f (first_of rest DecisionRule.NotSufficientFunds) next look → Ends a f (first_of ((DecisionRule.OtherCurrency, not same) ∷ rest) DecisionRule.NotSufficientFunds) (if same then next else acknowledged a) look
in_currency a f look true next rest h = h
in_currency a f look false next rest h = (acknowledged a, refl, refl)

abbrev account_conditions : Advice → Facts → Conditions
account_conditions a f =
    (DecisionRule.NoAccount, is_none f.account)
    ∷ (DecisionRule.OtherCurrency, has (λ (acc : AccountRow). not (is_same_currency a.transaction.currency acc.currency)) f.account)
    ∷ funds_conditions a f

abbrev day_of_advice : Advice → Lookup → VelocityRow
day_of_advice a look = spent_in (velocity_in (look (RowKey.Velocity a.transaction.pan (day_of a.transaction.stamp))))

abbrev budget_of_advice : Advice → Lookup → Option BudgetRow
budget_of_advice a look = budget_in (look (RowKey.Budget (prefix_of a.transaction.pan)))

on_account_ends : (a : Advice) (card : CardRow) (id : AccountId) (look : Lookup) (account : Option AccountRow) → Ends a (fresh (Some card) (Some id) account (day_of_advice a look) (budget_of_advice a look)) (first_of (account_conditions a (fresh (Some card) (Some id) account (day_of_advice a look) (budget_of_advice a look))) DecisionRule.NotSufficientFunds) (advice_on_account a id account) look
on_account_ends a card id look None = (acknowledged a, refl, refl)
on_account_ends a card id look (Some account) =
    let f = fresh (Some card) (Some id) (Some account) (day_of_advice a look) (budget_of_advice a look) in
    in_currency a f look (is_same_currency a.transaction.currency account.currency) (looked_for_funds a id account) (funds_conditions a f)
    (with_budget a card id account (day_of_advice a look) look (budget_of_advice a look))

abbrev named_conditions : Advice → Facts → Conditions
named_conditions a f = (DecisionRule.NotOfCard, is_none f.named) ∷ account_conditions a f

on_named_ends : (a : Advice) (card : CardRow) (look : Lookup) (named : Option AccountId) → Ends a (facts_with a look None (Some card) named) (first_of (named_conditions a (facts_with a look None (Some card) named)) DecisionRule.NotSufficientFunds) (advice_on_named a named) look
on_named_ends a card look None = (acknowledged a, refl, refl)
on_named_ends a card look (Some id) = on_account_ends a card id look (account_in (look (RowKey.Account id)))

abbrev card_conditions : Advice → Facts → Conditions
card_conditions a f = (DecisionRule.NoCard, is_none f.card) ∷ named_conditions a f

on_card_ends : (a : Advice) (look : Lookup) (card : Option CardRow) → Ends a (facts_with a look None card (named_by a.account card)) (first_of (card_conditions a (facts_with a look None card (named_by a.account card))) DecisionRule.NotSufficientFunds) (advice_on_card a card) look
on_card_ends a look None = (acknowledged a, refl, refl)
on_card_ends a look (Some card) = on_named_ends a card look (account_of card.accounts a.account)

-- the acquirer approved
approved_by : (a : Advice) (f : Facts) (look : Lookup) (approved : Bool) (next : Plan) (rest : Conditions) → Ends a f (first_of rest DecisionRule.NotSufficientFunds) next look → Ends a f (first_of ((DecisionRule.NotApproved, not approved) ∷ rest) DecisionRule.NotSufficientFunds) (if approved then next else acknowledged a) look
approved_by a f look true next rest h = h
approved_by a f look false next rest h = (acknowledged a, refl, refl)

marked_ends : (a : Advice) (mark : Mark) (f : Facts) (look : Lookup) (own : Bool) (rest : Conditions) → f.seen ≡ Some (OriginalRow.Ahead mark) → Ends a f (first_of ((DecisionRule.ReversedAhead, own) ∷ (DecisionRule.MarkOfAnother, true) ∷ rest) DecisionRule.NotSufficientFunds) (if own then marked_advice a mark else answered_unkept a 913) look
marked_ends a mark f look true rest e = (marked_advice a mark, (mark, e, refl), refl)
marked_ends a mark f look false rest e = (answered_unkept a 913, refl, refl)

kept_ends : (a : Advice) (kept : KeptOriginal) (f : Facts) (look : Lookup) (same again : Bool) (rest : Conditions) → f.seen ≡ Some (OriginalRow.Kept kept) → Ends a f (first_of ((DecisionRule.Repeat, same && again) ∷ (DecisionRule.Duplicate, true) ∷ rest) DecisionRule.NotSufficientFunds) (if again && same then answered_unkept a (action_of_outcome kept.outcome) else answered_unkept a 913) look
kept_ends a kept f look true true rest e = (answered_unkept a (action_of_outcome kept.outcome), (kept, e, refl), refl)
kept_ends a kept f look true false rest e = (answered_unkept a 913, refl, refl)
kept_ends a kept f look false true rest e = (answered_unkept a 913, refl, refl)
kept_ends a kept f look false false rest e = (answered_unkept a 913, refl, refl)

abbrev approval_conditions : Advice → Facts → Conditions
approval_conditions a f = (DecisionRule.NotApproved, not (a.action == 0)) ∷ card_conditions a f

on_original_ends : (a : Advice) (look : Lookup) (seen : Option OriginalRow) (card : Option CardRow) → card_in (look (RowKey.Card a.transaction.pan)) ≡ card → Ends a (facts_with a look seen card (named_by a.account card)) (advice_rule a (facts_with a look seen card (named_by a.account card))) (advice_on_original a seen) look
on_original_ends a look (Some (OriginalRow.Ahead mark)) card e =
    let f = facts_with a look (Some (OriginalRow.Ahead mark)) card (named_by a.account card) in
    marked_ends a mark f look (is_marked mark a.transaction OriginalKind.Advice) ((DecisionRule.Repeat, false) ∷ (DecisionRule.Duplicate, true) ∷ approval_conditions a f) refl
on_original_ends a look (Some (OriginalRow.Kept kept)) card e =
    let f = facts_with a look (Some (OriginalRow.Kept kept)) card (named_by a.account card) in
    kept_ends a kept f look (is_of_same kept a.transaction OriginalKind.Advice) a.repeat (approval_conditions a f) refl
on_original_ends a look None card e =
    let f = facts_with a look None card (named_by a.account card) in
    approved_by a f look (a.action == 0) (looked_for_card a) (card_conditions a f)
    (subst (λ (c : Option CardRow). Ends a (facts_with a look None c (named_by a.account c)) (first_of (card_conditions a (facts_with a look None c (named_by a.account c))) DecisionRule.NotSufficientFunds) (looked_for_card a) look) e
    (on_card_ends a look (card_in (look (RowKey.Card a.transaction.pan)))))

-- an advice is decided by the first rule of its list that holds
pub advice_decided : (rows : Rows) (a : Advice) → AdviceIsDecided rows a (decided_by rows (advice_frame a))
unfolding decision
advice_decided rows a = on_original_ends a (map.get rows) (original_in (map.get rows (RowKey.Original (identity_of a.transaction)))) (card_in (map.get rows (RowKey.Card a.transaction.pan))) refl
