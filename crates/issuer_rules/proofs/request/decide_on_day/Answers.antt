use Rattle.std.proofs.Common.{refl, sym, ap, ◌∙◌}
use Rattle.issuer_rows.specs.declared.row_key.RowKey.TheVariants as key
use Rattle.issuer_rows.specs.RequestTable as table
use Rattle.issuer_rows.specs.Typed as typed
use Rattle.issuer_rules.proofs.FollowingLaws.{looked_as}
use Rattle.issuer_rules.proofs.StageLaws.{unread_at, reaches, stops_asking}
use Rattle.issuer_rules.proofs.request.decide_on_day.Goals as goal

pub ask-requires : goal.ask-requires
ask-requires g c = unread_at (key.Velocity c.args.request.now.transaction.pan c.day.result) c.requires.at refl

pub decide_on_limits-requires-clause-at : goal.decide_on_limits-requires-clause-at
decide_on_limits-requires-clause-at g c =
    let r = c.args.request.now in
    reaches _ _ c.requires.at c.in_ok-ask.ensures.logged
    (looked_as _ _ _ _ _ _ _ _ _ _ c.requires.at.follows c.in_ok-ask.ensures.logged c.in_ok-ask.ensures.writes (λ i. key.Velocity r.transaction.pan (c.day.ensures i))
    (ap (λ day. table.on_day r c.args.card.now c.args.id.now c.args.account.now day) (sym (c.spent_in-day.ensures ∙ ap typed.spent_in (c.velocity_in.ensures ∙ ap typed.velocity_in c.latest.ensures)))))

pub returns-in_err-ask : goal.returns-in_err-ask
returns-in_err-ask g c = stops_asking c.requires.at.follows c.in_err-ask.ensures.err c.in_err-ask.ensures.stop c.in_err-ask.ensures.stops c.in_err-ask.ensures.book c.from_residual.ensures.1
