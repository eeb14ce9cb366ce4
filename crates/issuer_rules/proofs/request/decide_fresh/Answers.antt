use Rattle.std.proofs.Common.{refl, sym, ap, ◌∙◌}
use Rattle.issuer_rows.specs.declared.row_key.RowKey.TheVariants as key
use Rattle.issuer_rows.specs.RequestTable as table
use Rattle.issuer_rows.specs.Typed as typed
use Rattle.issuer_rules.proofs.FollowingLaws.{read_as, looked_as, follows_as}
use Rattle.issuer_rules.proofs.StageLaws.{unread_at, reaches, stops_asking}
use Rattle.issuer_rules.proofs.request.decide_fresh.Goals as goal

pub ask-requires : goal.ask-requires
ask-requires g c = unread_at (key.Card c.args.request.now.transaction.pan) c.requires.at refl

pub decline-requires-in_default-card_in : goal.decline-requires-in_default-card_in
decline-requires-in_default-card_in g c =
    let r = c.args.request.now in
    record {
      named = c.requires.named;
      follows =
          looked_as _ _ _ _ _ _ _ _ _ _ (follows_as _ _ _ _ (table.looked_for_card r) (ap (λ o. table.unless_refused r o (table.looked_for_card r)) (sym c.refused_unseen.ensures ∙ c.in_default.is)) c.requires.at.follows)
          c.in_ok-ask.ensures.logged c.in_ok-ask.ensures.writes refl (ap (table.on_card r) (read_as typed.card_in c.latest.ensures c.card_in.ensures c.in_default-card_in.is));
    }

pub decide_on_account-requires-clause-at : goal.decide_on_account-requires-clause-at
decide_on_account-requires-clause-at g c =
    let r = c.args.request.now in
    reaches _ _ c.requires.at c.in_ok-ask.ensures.logged
    (looked_as _ _ _ _ _ _ _ _ _ _ (follows_as _ _ _ _ (table.looked_for_card r) (ap (λ o. table.unless_refused r o (table.looked_for_card r)) (sym c.refused_unseen.ensures ∙ c.in_default.is)) c.requires.at.follows)
    c.in_ok-ask.ensures.logged c.in_ok-ask.ensures.writes refl
    (ap (table.on_card r) (read_as typed.card_in c.latest.ensures c.card_in.ensures c.in-Some-card_in.is) ∙ ap (table.on_usable r c.in-Some-card_in.card) c.in-Ok.ensures.ok))

pub decline-requires-in-Err : goal.decline-requires-in-Err
decline-requires-in-Err g c =
    let r = c.args.request.now in
    record {
      named = c.requires.named;
      follows =
          looked_as _ _ _ _ _ _ _ _ _ _ (follows_as _ _ _ _ (table.looked_for_card r) (ap (λ o. table.unless_refused r o (table.looked_for_card r)) (sym c.refused_unseen.ensures ∙ c.in_default.is)) c.requires.at.follows)
          c.in_ok-ask.ensures.logged c.in_ok-ask.ensures.writes refl
          (ap (table.on_card r) (read_as typed.card_in c.latest.ensures c.card_in.ensures c.in-Some-card_in.is) ∙ ap (table.on_usable r c.in-Some-card_in.card) c.in-Err.ensures.err);
    }

pub returns-in_err-ask : goal.returns-in_err-ask
returns-in_err-ask g c = stops_asking c.requires.at.follows c.in_err-ask.ensures.err c.in_err-ask.ensures.stop c.in_err-ask.ensures.stops c.in_err-ask.ensures.book c.from_residual.ensures.1
