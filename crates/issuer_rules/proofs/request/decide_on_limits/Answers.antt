use Rattle.std.proofs.Common.{refl, sym, ap, ◌∙◌}
use Rattle.issuer_rows.specs.declared.row_key.RowKey.TheVariants as key
use Rattle.issuer_rows.specs.RequestTable as table
use Rattle.issuer_rows.specs.Typed as typed
use Rattle.issuer_rules.proofs.FollowingLaws.{read_as, looked_as, follows_as}
use Rattle.issuer_rules.proofs.StageLaws.{unread_at, stops_asking}
use Rattle.issuer_rules.proofs.request.decide_on_limits.Goals as goal

pub ask-requires : goal.ask-requires
ask-requires g c = unread_at (key.Budget c.prefix.result) c.requires.at refl

pub approve-requires-clause-follows : goal.approve-requires-clause-follows
approve-requires-clause-follows g c =
    let r = c.args.request.now in
    looked_as _ _ _ _ _ _ _ _ _ _
    (follows_as _ _ _ _ (table.looked_for_funds r c.args.card.now c.args.id.now c.args.account.now c.args.day.now)
    (ap (λ o. table.unless_refused r o (table.looked_for_funds r c.args.card.now c.args.id.now c.args.account.now c.args.day.now)) (sym c.refused_by_limits.ensures.refused ∙ c.in_default.is))
    c.requires.at.follows)
    c.in_ok-ask.ensures.logged c.in_ok-ask.ensures.writes (λ i. key.Budget (c.prefix.ensures i))
    (ap (table.on_funds r c.args.card.now c.args.day.now)
    (ap (table.request_funds r.transaction c.args.id.now c.args.account.now) (read_as typed.budget_in c.latest.ensures c.budget_in-budget.ensures refl) ∙ sym c.request_funds.ensures.funds ∙ c.in-Ok.is))

pub decline-requires-in-Err : goal.decline-requires-in-Err
decline-requires-in-Err g c =
    let r = c.args.request.now in
    record {
      named = c.requires.named;
      follows =
          looked_as _ _ _ _ _ _ _ _ _ _
          (follows_as _ _ _ _ (table.looked_for_funds r c.args.card.now c.args.id.now c.args.account.now c.args.day.now)
          (ap (λ o. table.unless_refused r o (table.looked_for_funds r c.args.card.now c.args.id.now c.args.account.now c.args.day.now)) (sym c.refused_by_limits.ensures.refused ∙ c.in_default.is))
          c.requires.at.follows)
          c.in_ok-ask.ensures.logged c.in_ok-ask.ensures.writes (λ i. key.Budget (c.prefix.ensures i))
          (ap (table.on_funds r c.args.card.now c.args.day.now)
          (ap (table.request_funds r.transaction c.args.id.now c.args.account.now) (read_as typed.budget_in c.latest.ensures c.budget_in-budget.ensures refl) ∙ sym c.request_funds.ensures.funds ∙ c.in-Err.is));
    }

pub returns-in_err-ask : goal.returns-in_err-ask
returns-in_err-ask g c = stops_asking c.requires.at.follows c.in_err-ask.ensures.err c.in_err-ask.ensures.stop c.in_err-ask.ensures.stops c.in_err-ask.ensures.book c.from_residual.ensures.1
