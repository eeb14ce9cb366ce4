use Rattle.std.proofs.Common.{refl, sym, ap, ◌∙◌, option_map, not, ◌==◌}
use Rattle.issuer_rows.specs.ReversalTable as table
use Rattle.issuer_rows.specs.declared.row_key.RowKey.TheVariants as key
use Rattle.issuer_rows.specs.Facts.{prefix_of}
use Rattle.issuer_rows.specs.declared.funds.Funds.TheVariants as funds
use Rattle.issuer_rows.specs.Typed as typed
use Rattle.std.specs.List.{list_all}
use Rattle.issuer_rules.proofs.FollowingLaws.{looked_as, kinds_more}
use Rattle.issuer_rules.proofs.StageLaws.{unread_at, stops_asking}
use Rattle.issuer_rules.proofs.reversal.decide_by_budget.Goals as goal

pub ask-requires : goal.ask-requires
ask-requires g c = unread_at (key.Budget c.prefix.result) c.requires.at refl

pub decide_on_paid-requires-clause-follows : goal.decide_on_paid-requires-clause-follows
decide_on_paid-requires-clause-follows g c =
    let key_prefix = c.prefix.ensures ∙ ap prefix_of c.card.ensures.card in
    let row_prefix = c.prefix-2.ensures ∙ ap prefix_of c.card-2.ensures.card in
    looked_as _ _ _ _ _ _ _ _ _ _ c.requires.at.follows c.in_ok-ask.ensures.logged c.in_ok-ask.ensures.writes (λ i. key.Budget (key_prefix i))
    (ap (table.on_paid c.args.reversal.now c.args.kept.now) (sym (c.budget_funds-paid.ensures ∙ (λ i. option_map (funds.Budget (row_prefix i)) ((c.budget_in.ensures ∙ ap typed.budget_in c.latest.ensures) i)))))

pub decide_on_paid-requires-clause-days : goal.decide_on_paid-requires-clause-days
decide_on_paid-requires-clause-days g c = ap (λ kinds. list_all (λ kind. not (1 == kind)) kinds) (kinds_more _ _ _ _ _ c.requires.at.kinds c.in_ok-ask.ensures.logged)

pub returns-in_err-ask : goal.returns-in_err-ask
returns-in_err-ask g c = stops_asking c.requires.at.follows c.in_err-ask.ensures.err c.in_err-ask.ensures.stop c.in_err-ask.ensures.stops c.in_err-ask.ensures.book c.from_residual.ensures.1
