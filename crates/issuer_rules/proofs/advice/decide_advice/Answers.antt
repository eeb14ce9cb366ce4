use Rattle.std.proofs.Common.{refl, ap}
use Rattle.issuer_rows.specs.declared.row_key.RowKey.TheVariants as key
use Rattle.issuer_rows.specs.AdviceTable as table
use Rattle.issuer_rows.specs.Typed as typed
use Rattle.issuer_rules.proofs.FollowingLaws.{read_as, looked_as}
use Rattle.issuer_rules.proofs.StageLaws.{unread_at, reaches}
use Rattle.issuer_rules.proofs.advice.decide_advice.Goals as goal

pub ask-requires : goal.ask-requires
ask-requires g c = unread_at (key.Original c.identity.result) c.requires.at refl

pub answer_again-requires : goal.answer_again-requires
answer_again-requires g c = record {
  follows =
      looked_as _ _ _ _ _ _ _ _ _ _ c.requires.at.follows c.in_ok-ask.ensures.logged c.in_ok-ask.ensures.writes (λ i. key.Original (c.identity.ensures i))
      (ap (table.advice_on_original c.args.advice.now) (read_as typed.original_in c.latest.ensures c.original_in.ensures c.in-Some.is));
}

pub decide_fresh-requires : goal.decide_fresh-requires
decide_fresh-requires g c = record {
  at =
      reaches _ _ c.requires.at c.in_ok-ask.ensures.logged
      (looked_as _ _ _ _ _ _ _ _ _ _ c.requires.at.follows c.in_ok-ask.ensures.logged c.in_ok-ask.ensures.writes (λ i. key.Original (c.identity.ensures i))
      (ap (table.advice_on_original c.args.advice.now) (read_as typed.original_in c.latest.ensures c.original_in.ensures c.in-None.is)));
}
