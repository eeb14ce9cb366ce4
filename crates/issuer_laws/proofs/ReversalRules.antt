-- The table of a reversal, stage by stage, and its flat list of conditions are one.
use Rattle.std.proofs.Common.{◌≡◌, ◌+◌, Bool, true, false, ◌&&◌, ◌||◌, ◌==◌, not, nat_lt, if◌then◌else◌, [], ◌∷◌, Option, Some, None, is_some, is_none, option_and_then, refl, sym, subst}
use Rattle.std.specs.FinMap as map
use Rattle.issuer_words.specs.Words.{Funds, Identity, KeptOriginal, OriginalKind, OriginalRow, Payer, Payment, Reversal, RowKey, RowVal, Rows, VelocityRow, advice_back, balance_of, by_kind, by_payer, day_is_short, day_key, decision, given_back, greatest_balance, identity_of, is_named, is_overfull, is_same_identity, is_same_kind, is_wrong_part, kind_of_outcome, marked_ahead, on_original_day, on_paid, on_payment, on_reversal, on_reversed, original_in, original_put, payment_of_outcome, reply_to_reversal, request_back, reversal_of_outcome, settled, takes_approval, unchanged, velocity_in}
use Rattle.issuer_rows.specs.Plan.{Plan, Lookup, Answer}
use Rattle.issuer_laws.specs.Messages.{reversal_frame}
use Rattle.issuer_laws.specs.Rules.{Conditions, decided_by, first_of, comes_to, has, ReversalFacts, row_of_payer, reversal_facts, is_request, reversal_rule, EndsGivenBack, ReversalEnds, ReversalIsDecided}
use Rattle.issuer_laws.specs.declared.decision_rule.DecisionRule.{DecisionRule}

-- what a plan comes to is what this rule says
abbrev Ends : Reversal → ReversalFacts → DecisionRule → Plan → Lookup → Type 0
Ends v f rule plan look = (end : Plan) × ReversalEnds v f rule end × (comes_to plan look ≡ comes_to end look)

abbrev kept_facts : KeptOriginal → Option Funds → Option VelocityRow → ReversalFacts
kept_facts k paid day = record { seen = Some (OriginalRow.Kept k); paid = paid; day = day }

-- what is asked behind the row that paid
abbrev back_conditions : Reversal → KeptOriginal → OriginalKind → Funds → Option VelocityRow → Conditions
back_conditions v k kind paid day =
    (DecisionRule.NoDay, is_same_kind kind OriginalKind.Request && is_none day)
    ∷ (DecisionRule.BalanceTooGreat, is_overfull v k paid)
    ∷ (DecisionRule.DayTooShort, is_same_kind kind OriginalKind.Request && has (λ (d : VelocityRow). day_is_short v k d) day)
    ∷ []

back : (v : Reversal) (k : KeptOriginal) (f : ReversalFacts) (paid : Funds) (look : Lookup) → f.seen ≡ Some (OriginalRow.Kept k) → f.paid ≡ Some paid → (end : Plan) → EndsGivenBack (kind_of_outcome k.outcome) v k paid f.day end → Ends v f DecisionRule.GivenBack end look
back v k f paid look e p end h = (end, (k, paid, e, p, h), refl)

advice_ends : (v : Reversal) (k : KeptOriginal) (f : ReversalFacts) (paid : Funds) (look : Lookup) (full : Bool) → ((end : Plan) → end ≡ Answer (reply_to_reversal v 400) (advice_back v k paid) → Ends v f DecisionRule.GivenBack end look) → Ends v f (first_of ((DecisionRule.BalanceTooGreat, full) ∷ (DecisionRule.DayTooShort, false) ∷ []) DecisionRule.GivenBack) (if full then unchanged v 909 else Answer (reply_to_reversal v 400) (advice_back v k paid)) look
advice_ends v k f paid look true h = (unchanged v 909, refl, refl)
advice_ends v k f paid look false h = h (Answer (reply_to_reversal v 400) (advice_back v k paid)) refl

day_ends : (v : Reversal) (k : KeptOriginal) (f : ReversalFacts) (paid : Funds) (day : VelocityRow) (look : Lookup) (full short : Bool) → ((end : Plan) → end ≡ Answer (reply_to_reversal v 400) (request_back v k paid day) → Ends v f DecisionRule.GivenBack end look) → Ends v f (first_of ((DecisionRule.BalanceTooGreat, full) ∷ (DecisionRule.DayTooShort, short) ∷ []) DecisionRule.GivenBack) (if full then unchanged v 909 else (if short then unchanged v 909 else Answer (reply_to_reversal v 400) (request_back v k paid day))) look
day_ends v k f paid day look true short h = (unchanged v 909, refl, refl)
day_ends v k f paid day look false true h = (unchanged v 909, refl, refl)
day_ends v k f paid day look false false h = h (Answer (reply_to_reversal v 400) (request_back v k paid day)) refl

request_ends : (v : Reversal) (k : KeptOriginal) (f : ReversalFacts) (paid : Funds) (look : Lookup) (day : Option VelocityRow) → ((end : Plan) → EndsGivenBack OriginalKind.Request v k paid day end → Ends v f DecisionRule.GivenBack end look) → Ends v f (first_of (back_conditions v k OriginalKind.Request paid day) DecisionRule.GivenBack) (on_original_day v k paid day) look
request_ends v k f paid look None h = (unchanged v 914, refl, refl)
request_ends v k f paid look (Some day) h = day_ends v k f paid day look (is_overfull v k paid) (day_is_short v k day) h

kind_ends : (v : Reversal) (k : KeptOriginal) (f : ReversalFacts) (paid : Funds) (look : Lookup) (kind : OriginalKind) → ((end : Plan) → EndsGivenBack kind v k paid (velocity_in (look (day_key v k))) end → Ends v f DecisionRule.GivenBack end look) → Ends v f (first_of (back_conditions v k kind paid (velocity_in (look (day_key v k)))) DecisionRule.GivenBack) (by_kind kind v k paid) look
kind_ends v k f paid look OriginalKind.Request h = request_ends v k f paid look (velocity_in (look (day_key v k))) h
kind_ends v k f paid look OriginalKind.Advice h = advice_ends v k f paid look (is_overfull v k paid) h

-- the row that paid
abbrev paid_conditions : Reversal → KeptOriginal → Option Funds → Option VelocityRow → Conditions
paid_conditions v k paid day =
    (DecisionRule.NoPayer, is_none paid)
    ∷ (DecisionRule.NoDay, is_request k && is_none day)
    ∷ (DecisionRule.BalanceTooGreat, has (λ (p : Funds). nat_lt greatest_balance (balance_of p + given_back v k)) paid)
    ∷ (DecisionRule.DayTooShort, is_request k && has (λ (d : VelocityRow). (takes_approval v.scope && (d.count == 0)) || nat_lt d.sum (given_back v k)) day)
    ∷ []

paid_ends : (v : Reversal) (k : KeptOriginal) (look : Lookup) (paid : Option Funds) → Ends v (kept_facts k paid (velocity_in (look (day_key v k)))) (first_of (paid_conditions v k paid (velocity_in (look (day_key v k)))) DecisionRule.GivenBack) (on_paid v k paid) look
paid_ends v k look None = (unchanged v 914, refl, refl)
paid_ends v k look (Some paid) =
    let f = kept_facts k (Some paid) (velocity_in (look (day_key v k))) in
    kind_ends v k f paid look (kind_of_outcome k.outcome) (back v k f paid look refl refl)

payer_ends : (v : Reversal) (k : KeptOriginal) (look : Lookup) (payer : Payer) → Ends v (kept_facts k (row_of_payer look k.card payer) (velocity_in (look (day_key v k)))) (first_of (paid_conditions v k (row_of_payer look k.card payer) (velocity_in (look (day_key v k)))) DecisionRule.GivenBack) (by_payer v k payer) look
payer_ends v k look (Payer.Account id) = paid_ends v k look (row_of_payer look k.card (Payer.Account id))
payer_ends v k look Payer.Budget = paid_ends v k look (row_of_payer look k.card Payer.Budget)

wrong_part : (v : Reversal) (f : ReversalFacts) (look : Lookup) (wrong : Bool) (next : Plan) (rest : Conditions) → Ends v f (first_of rest DecisionRule.GivenBack) next look → Ends v f (first_of ((DecisionRule.WrongPart, wrong) ∷ rest) DecisionRule.GivenBack) (if wrong then unchanged v 110 else next) look
wrong_part v f look true next rest h = (unchanged v 110, refl, refl)
wrong_part v f look false next rest h = h

abbrev paid_row : Lookup → KeptOriginal → Option Payment → Option Funds
paid_row look k None = None
paid_row look k (Some payment) = row_of_payer look k.card payment.payer

payment_ends : (v : Reversal) (k : KeptOriginal) (look : Lookup) (payment : Option Payment) → Ends v (kept_facts k (paid_row look k payment) (velocity_in (look (day_key v k)))) (first_of ((DecisionRule.NotPosted, is_none payment) ∷ (DecisionRule.WrongPart, is_wrong_part v.scope v.transaction.amount k.amount) ∷ paid_conditions v k (paid_row look k payment) (velocity_in (look (day_key v k)))) DecisionRule.GivenBack) (on_payment v k payment) look
payment_ends v k look None = (Answer (reply_to_reversal v 400) (original_put v (RowVal.Kept (settled k (identity_of v.transaction) 0)) ∷ []), (k, refl, refl), refl)
payment_ends v k look (Some payment) =
    wrong_part v (kept_facts k (paid_row look k (Some payment)) (velocity_in (look (day_key v k)))) look (is_wrong_part v.scope v.transaction.amount k.amount) (by_payer v k payment.payer)
    (paid_conditions v k (paid_row look k (Some payment)) (velocity_in (look (day_key v k))))
    (payer_ends v k look payment.payer)

-- the reversal that it has
reversed_ends : (v : Reversal) (f : ReversalFacts) (look : Lookup) (own again : Bool) (rest : Conditions) → Ends v f (first_of ((DecisionRule.ReversalRepeat, own && again) ∷ (DecisionRule.ReversedBefore, true) ∷ rest) DecisionRule.GivenBack) (if again && own then unchanged v 400 else unchanged v 913) look
reversed_ends v f look true true rest = (unchanged v 400, refl, refl)
reversed_ends v f look true false rest = (unchanged v 913, refl, refl)
reversed_ends v f look false true rest = (unchanged v 913, refl, refl)
reversed_ends v f look false false rest = (unchanged v 913, refl, refl)

abbrev reversal_conditions_of : Reversal → KeptOriginal → Option Identity → Option Payment → Option Funds → Option VelocityRow → Conditions
reversal_conditions_of v k by payment paid day =
    (DecisionRule.ReversalRepeat, has (λ (i : Identity). is_same_identity i (identity_of v.transaction)) by && v.repeat)
    ∷ (DecisionRule.ReversedBefore, is_some by)
    ∷ (DecisionRule.NotPosted, is_none payment)
    ∷ (DecisionRule.WrongPart, is_wrong_part v.scope v.transaction.amount k.amount)
    ∷ paid_conditions v k paid day

on_reversal_ends : (v : Reversal) (k : KeptOriginal) (look : Lookup) (by : Option Identity) (payment : Option Payment) → payment_of_outcome k.outcome ≡ payment → Ends v (kept_facts k (paid_row look k payment) (velocity_in (look (day_key v k)))) (first_of (reversal_conditions_of v k by payment (paid_row look k payment) (velocity_in (look (day_key v k)))) DecisionRule.GivenBack) (on_reversal v k by) look
on_reversal_ends v k look (Some by) payment e =
    reversed_ends v (kept_facts k (paid_row look k payment) (velocity_in (look (day_key v k)))) look (is_same_identity by (identity_of v.transaction)) v.repeat
    ((DecisionRule.NotPosted, is_none payment) ∷ (DecisionRule.WrongPart, is_wrong_part v.scope v.transaction.amount k.amount) ∷ paid_conditions v k (paid_row look k payment) (velocity_in (look (day_key v k))))
on_reversal_ends v k look None payment e =
    subst (λ (p : Option Payment). Ends v (kept_facts k (paid_row look k payment) (velocity_in (look (day_key v k)))) (first_of ((DecisionRule.NotPosted, is_none payment) ∷ (DecisionRule.WrongPart, is_wrong_part v.scope v.transaction.amount k.amount) ∷ paid_conditions v k (paid_row look k payment) (velocity_in (look (day_key v k)))) DecisionRule.GivenBack) (on_payment v k p) look) (sym e)
    (payment_ends v k look payment)

named_ends : (v : Reversal) (f : ReversalFacts) (look : Lookup) (named : Bool) (next : Plan) (rest : Conditions) → Ends v f (first_of rest DecisionRule.GivenBack) next look → Ends v f (first_of ((DecisionRule.OtherOriginal, not named) ∷ rest) DecisionRule.GivenBack) (if named then next else unchanged v 914) look
named_ends v f look true next rest h = h
named_ends v f look false next rest h = (unchanged v 914, refl, refl)

same_row : (look : Lookup) (k : KeptOriginal) (payment : Option Payment) → option_and_then (λ (p : Payment). row_of_payer look k.card p.payer) payment ≡ paid_row look k payment
same_row look k None = refl
same_row look k (Some payment) = refl

on_row_ends : (v : Reversal) (look : Lookup) (seen : Option OriginalRow) → Ends v (reversal_facts look v seen) (reversal_rule v (reversal_facts look v seen)) (on_reversed v seen) look
on_row_ends v look None = (marked_ahead v, refl, refl)
on_row_ends v look (Some (OriginalRow.Ahead mark)) = (unchanged v 914, refl, refl)
on_row_ends v look (Some (OriginalRow.Kept k)) =
    let payment = payment_of_outcome k.outcome in
    let day = velocity_in (look (day_key v k)) in
    subst (λ (paid : Option Funds). Ends v (kept_facts k paid day) (first_of ((DecisionRule.OtherOriginal, not (is_named v k)) ∷ reversal_conditions_of v k (reversal_of_outcome k.outcome) payment paid day) DecisionRule.GivenBack) (on_reversed v (Some (OriginalRow.Kept k))) look) (sym (same_row look k payment))
    (named_ends v (kept_facts k (paid_row look k payment) day) look (is_named v k) (on_reversal v k (reversal_of_outcome k.outcome)) (reversal_conditions_of v k (reversal_of_outcome k.outcome) payment (paid_row look k payment) day)
    (on_reversal_ends v k look (reversal_of_outcome k.outcome) payment refl))

-- a reversal is decided by the first rule of its list that holds
pub reversal_decided : (rows : Rows) (v : Reversal) → ReversalIsDecided rows v (decided_by rows (reversal_frame v))
unfolding decision
reversal_decided rows v = on_row_ends v (map.get rows) (original_in (map.get rows (RowKey.Original v.original.identity)))
