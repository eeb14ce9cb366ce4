use Rattle.std.proofs.Common.{refl, ap}
use Rattle.issuer_rows.specs.ReversalTable as table
use Rattle.issuer_rows.specs.declared.row_key.RowKey.TheVariants as key
use Rattle.issuer_rows.specs.Typed as typed
use Rattle.issuer_rules.proofs.FollowingLaws.{read_as, unread, looked_as}
use Rattle.issuer_rules.proofs.StageLaws.{goes_on, stops_asking, answers_with_none}
use Rattle.issuer_rules.proofs.reversal.decide_on_day.Goals as goal

pub ask-requires : goal.ask-requires
ask-requires g c = unread c.args.rows.now _ _ _ (key.Velocity c.card.result c.day.result) c.requires.follows refl c.requires.days

pub reverse_request-requires : goal.reverse_request-requires
reverse_request-requires g c = record {
  follows =
      looked_as _ _ _ _ _ _ _ _ _ _ c.requires.follows c.in_ok-ask.ensures.logged c.in_ok-ask.ensures.writes (λ i. key.Velocity (c.card.ensures.card i) (c.day.ensures i))
      (ap (table.on_original_day c.args.reversal.now c.args.kept.now c.args.paid.now) (read_as typed.velocity_in c.latest.ensures c.velocity_in.ensures c.in-Some.is));
}

pub returns-in_err-ask : goal.returns-in_err-ask
returns-in_err-ask g c = stops_asking c.requires.follows c.in_err-ask.ensures.err c.in_err-ask.ensures.stop c.in_err-ask.ensures.stops c.in_err-ask.ensures.book c.from_residual.ensures.1

pub returns-in-None : goal.returns-in-None
returns-in-None g c =
    goes_on c.in_ok-ask.ensures.book
    (answers_with_none
    (looked_as _ _ _ _ _ _ _ _ _ _ c.requires.follows c.in_ok-ask.ensures.logged c.in_ok-ask.ensures.writes (λ i. key.Velocity (c.card.ensures.card i) (c.day.ensures i))
    (ap (table.on_original_day c.args.reversal.now c.args.kept.now c.args.paid.now) (read_as typed.velocity_in c.latest.ensures c.velocity_in.ensures c.in-None.is)))
    c.unchanged.ensures)
