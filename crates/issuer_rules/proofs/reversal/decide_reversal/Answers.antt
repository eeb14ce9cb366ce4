use Rattle.std.proofs.Common.{refl, ap}
use Rattle.issuer_rows.specs.ReversalTable as table
use Rattle.issuer_rows.specs.declared.row_key.RowKey.TheVariants as key
use Rattle.issuer_rows.specs.Typed as typed
use Rattle.issuer_rules.proofs.FollowingLaws.{read_as, looked_as}
use Rattle.issuer_rules.proofs.StageLaws.{unread_at, reaches}
use Rattle.issuer_rules.proofs.reversal.decide_reversal.Goals as goal

pub ask-requires : goal.ask-requires
ask-requires g c = unread_at (key.Original c.args.reversal.now.original.identity) c.requires.at refl

pub decide_on_row-requires : goal.decide_on_row-requires
decide_on_row-requires g c = record {
  at =
      reaches _ _ c.requires.at c.in_ok-ask.ensures.logged
      (looked_as _ _ _ _ _ _ _ _ _ _ c.requires.at.follows c.in_ok-ask.ensures.logged c.in_ok-ask.ensures.writes refl (ap (table.on_reversed c.args.reversal.now) (read_as typed.original_in c.latest.ensures c.original_in.ensures c.in-Some.is)));
}

pub mark_ahead-requires : goal.mark_ahead-requires
mark_ahead-requires g c = record {
  follows =
      looked_as _ _ _ _ _ _ _ _ _ _ c.requires.at.follows c.in_ok-ask.ensures.logged c.in_ok-ask.ensures.writes refl (ap (table.on_reversed c.args.reversal.now) (read_as typed.original_in c.latest.ensures c.original_in.ensures c.in-None.is));
}
