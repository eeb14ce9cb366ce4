use Rattle.std.proofs.Common.{refl, sym, ap, ◌∙◌}
use Rattle.issuer_rows.specs.declared.row_key.RowKey.TheVariants as key
use Rattle.issuer_rows.specs.RequestTable as table
use Rattle.issuer_rows.specs.Typed as typed
use Rattle.issuer_rules.proofs.FollowingLaws.{looked_as}
use Rattle.issuer_rules.proofs.StageLaws.{unread_at, reaches}
use Rattle.issuer_rules.proofs.request.decide_request.Goals as goal

pub ask-requires : goal.ask-requires
ask-requires g c = unread_at (key.Original c.identity.result) c.requires.at refl

pub answer_again-requires-clause-follows : goal.answer_again-requires-clause-follows
answer_again-requires-clause-follows g c =
    looked_as _ _ _ _ _ _ _ _ _ _ c.requires.at.follows c.in_ok-ask.ensures.logged c.in_ok-ask.ensures.writes (λ i. key.Original (c.identity.ensures i)) refl

pub decide_fresh-requires-clause-at : goal.decide_fresh-requires-clause-at
decide_fresh-requires-clause-at g c =
    reaches _ _ c.requires.at c.in_ok-ask.ensures.logged
    (looked_as _ _ _ _ _ _ _ _ _ _ c.requires.at.follows c.in_ok-ask.ensures.logged c.in_ok-ask.ensures.writes (λ i. key.Original (c.identity.ensures i))
    (ap (λ row. table.on_original c.args.request.now (typed.original_in row)) (sym c.latest.ensures ∙ c.in-None.is)))
