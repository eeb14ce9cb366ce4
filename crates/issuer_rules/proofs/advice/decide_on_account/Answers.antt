use Rattle.std.proofs.Common.{refl, sym, ap, ◌∙◌}
use Rattle.issuer_rows.specs.declared.row_key.RowKey.TheVariants as key
use Rattle.issuer_rows.specs.AdviceTable as table
use Rattle.issuer_rows.specs.Typed as typed
use Rattle.issuer_rules.proofs.FollowingLaws.{read_as, looked_as, follows_then, follows_else, not_true, not_false}
use Rattle.issuer_rows.specs.Facts.{is_same_currency}
use Rattle.issuer_rules.proofs.StageLaws.{unread_at, reaches, stops_asking}
use Rattle.issuer_rules.proofs.advice.decide_on_account.Goals as goal

pub ask-requires : goal.ask-requires
ask-requires g c = unread_at (key.Account c.args.id) c.requires.at refl

pub acknowledge-requires : goal.acknowledge-requires
acknowledge-requires g c = record {
  follows =
      looked_as _ _ _ _ _ _ _ _ _ _ c.requires.at.follows c.in_ok-ask.ensures.logged c.in_ok-ask.ensures.writes refl
      (ap (table.advice_on_account c.args.advice.now c.args.id) (read_as typed.account_in c.latest.ensures c.account_in.ensures c.in_default.is));
}

pub acknowledge-requires-then-ne : goal.acknowledge-requires-then-ne
acknowledge-requires-then-ne g c = record {
  follows =
      follows_else _ _ _ (is_same_currency c.args.advice.now.transaction.currency c.in-Some.account.currency) _ _
      (looked_as _ _ _ _ _ _ _ _ _ _ c.requires.at.follows c.in_ok-ask.ensures.logged c.in_ok-ask.ensures.writes refl
      (ap (table.advice_on_account c.args.advice.now c.args.id) (read_as typed.account_in c.latest.ensures c.account_in.ensures c.in-Some.is)))
      (not_true _ (sym c.ne.ensures ∙ c.if-ne.true));
}

pub decide_on_funds-requires : goal.decide_on_funds-requires
decide_on_funds-requires g c = record {
  at =
      reaches _ _ c.requires.at c.in_ok-ask.ensures.logged
      (follows_then _ _ _ (is_same_currency c.args.advice.now.transaction.currency c.in-Some.account.currency) _ _
      (looked_as _ _ _ _ _ _ _ _ _ _ c.requires.at.follows c.in_ok-ask.ensures.logged c.in_ok-ask.ensures.writes refl
      (ap (table.advice_on_account c.args.advice.now c.args.id) (read_as typed.account_in c.latest.ensures c.account_in.ensures c.in-Some.is)))
      (not_false _ (sym c.ne.ensures ∙ c.if-ne.false)));
}

pub returns-in_err-ask : goal.returns-in_err-ask
returns-in_err-ask g c = stops_asking c.requires.at.follows c.in_err-ask.ensures.err c.in_err-ask.ensures.stop c.in_err-ask.ensures.stops c.in_err-ask.ensures.book c.from_residual.ensures.1
