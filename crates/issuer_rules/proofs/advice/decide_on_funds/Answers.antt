use Rattle.std.proofs.Common.{refl, sym, ap, ◌∙◌}
use Rattle.issuer_rows.specs.declared.row_key.RowKey.TheVariants as key
use Rattle.issuer_rows.specs.AdviceTable as table
use Rattle.issuer_rows.specs.Typed as typed
use Rattle.issuer_rules.proofs.FollowingLaws.{read_as, looked_as}
use Rattle.issuer_rules.proofs.StageLaws.{unread_at, stops_asking}
use Rattle.issuer_rules.proofs.advice.decide_on_funds.Goals as goal

pub ask-requires : goal.ask-requires
ask-requires g c = unread_at (key.Budget c.prefix.result) c.requires.at refl

pub accept-requires-clause-follows : goal.accept-requires-clause-follows
accept-requires-clause-follows g c =
    let a = c.args.advice.now in
    looked_as _ _ _ _ _ _ _ _ _ _ c.requires.at.follows c.in_ok-ask.ensures.logged c.in_ok-ask.ensures.writes (λ i. key.Budget (c.prefix.ensures i))
    (ap (table.advice_on_funds a)
    (ap (table.advice_funds a.transaction c.args.id c.args.account.now) (read_as typed.budget_in c.latest.ensures c.budget_in-budget.ensures refl) ∙ sym c.advice_funds.ensures.funds ∙ c.in-Some.is))

pub acknowledge-requires : goal.acknowledge-requires
acknowledge-requires g c =
    let a = c.args.advice.now in
    record {
      follows =
          looked_as _ _ _ _ _ _ _ _ _ _ c.requires.at.follows c.in_ok-ask.ensures.logged c.in_ok-ask.ensures.writes (λ i. key.Budget (c.prefix.ensures i))
          (ap (table.advice_on_funds a)
          (ap (table.advice_funds a.transaction c.args.id c.args.account.now) (read_as typed.budget_in c.latest.ensures c.budget_in-budget.ensures refl) ∙ sym c.advice_funds.ensures.funds ∙ c.in-None.is));
    }

pub returns-in_err-ask : goal.returns-in_err-ask
returns-in_err-ask g c = stops_asking c.requires.at.follows c.in_err-ask.ensures.err c.in_err-ask.ensures.stop c.in_err-ask.ensures.stops c.in_err-ask.ensures.book c.from_residual.ensures.1
