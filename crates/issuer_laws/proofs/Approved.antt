-- A request is answered 000 exactly where money is paid.
use Rattle.std.proofs.Common.{◌≡◌, ap, refl, ◌∙◌}
use Rattle.std.specs.Prelude.{◌≢◌}
use Rattle.std.specs.FinMap as map
use Rattle.issuer_words.specs.Words.{Lookup, Plan, Request, Rows}
use Rattle.issuer_laws.proofs.RequestRules.{request_decided}
use Rattle.issuer_laws.specs.Messages.{request_frame}
use Rattle.issuer_laws.specs.Reconciled.{is_answered}
use Rattle.issuer_laws.specs.Rules.{Facts, IsApprovedWherePaid, RequestEnds, comes_to, decided_by, facts_of, pays}
use Rattle.issuer_laws.specs.declared.decision_rule.DecisionRule.{DecisionRule}

-- what a plan ends in has the action of the rule
ends_paid : (look : Lookup) (r : Request) (f : Facts) (rule : DecisionRule) (end : Plan) → RequestEnds r f rule end → rule ≢ DecisionRule.Repeat → is_answered 0 (comes_to end look).0 ≡ pays rule
ends_paid look r f DecisionRule.ReversedAhead end e n = ap (λ p. is_answered 0 (comes_to p look).0) e.2
ends_paid look r f DecisionRule.Repeat end e n = absurd (n refl)
ends_paid look r f DecisionRule.MarkOfAnother end e n = ap (λ p. is_answered 0 (comes_to p look).0) e
ends_paid look r f DecisionRule.Duplicate end e n = ap (λ p. is_answered 0 (comes_to p look).0) e
ends_paid look r f DecisionRule.NotPermitted end e n = ap (λ p. is_answered 0 (comes_to p look).0) e
ends_paid look r f DecisionRule.NoAmount end e n = ap (λ p. is_answered 0 (comes_to p look).0) e
ends_paid look r f DecisionRule.WrongCardNumber end e n = ap (λ p. is_answered 0 (comes_to p look).0) e
ends_paid look r f DecisionRule.NoCard end e n = ap (λ p. is_answered 0 (comes_to p look).0) e
ends_paid look r f DecisionRule.CardBlocked end e n = ap (λ p. is_answered 0 (comes_to p look).0) e
ends_paid look r f DecisionRule.CardLost end e n = ap (λ p. is_answered 0 (comes_to p look).0) e
ends_paid look r f DecisionRule.CardStolen end e n = ap (λ p. is_answered 0 (comes_to p look).0) e
ends_paid look r f DecisionRule.CardExpired end e n = ap (λ p. is_answered 0 (comes_to p look).0) e
ends_paid look r f DecisionRule.NotOfCard end e n = ap (λ p. is_answered 0 (comes_to p look).0) e
ends_paid look r f DecisionRule.NoAccount end e n = ap (λ p. is_answered 0 (comes_to p look).0) e
ends_paid look r f DecisionRule.OtherCurrency end e n = ap (λ p. is_answered 0 (comes_to p look).0) e
ends_paid look r f DecisionRule.TooManyApprovals end e n = ap (λ p. is_answered 0 (comes_to p look).0) e
ends_paid look r f DecisionRule.TooMuchMoney end e n = ap (λ p. is_answered 0 (comes_to p look).0) e
ends_paid look r f DecisionRule.ApprovalsExhausted end e n = ap (λ p. is_answered 0 (comes_to p look).0) e
ends_paid look r f DecisionRule.BudgetRefuses end e n = ap (λ p. is_answered 0 (comes_to p look).0) e
ends_paid look r f DecisionRule.NotSufficientFunds end e n = ap (λ p. is_answered 0 (comes_to p look).0) e
ends_paid look r f DecisionRule.BudgetPays end e n = ap (λ p. is_answered 0 (comes_to p look).0) e.2.paid
ends_paid look r f DecisionRule.AccountPays end e n = ap (λ p. is_answered 0 (comes_to p look).0) e.4.paid
ends_paid look r f rule end e n = absurd assumption

pub approved_where_paid : (rows : Rows) (r : Request) → IsApprovedWherePaid rows r
approved_where_paid rows r n =
    let d = request_decided rows r in
    ap (λ (x : _). is_answered 0 x.0) d.2 ∙ ends_paid (map.get rows) r (facts_of rows r.transaction r.account) (decided_by rows (request_frame r)) d.0 d.1 n
