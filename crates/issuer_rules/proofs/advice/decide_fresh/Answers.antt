use Rattle.std.proofs.Common.{refl, sym, ap, ◌∙◌}
use Rattle.issuer_rows.specs.declared.row_key.RowKey.TheVariants as key
use Rattle.issuer_rows.specs.AdviceTable as table
use Rattle.issuer_rows.specs.Typed as typed
use Rattle.issuer_rules.proofs.FollowingLaws.{read_as, looked_as, follows_then, follows_else, same_number, other_number}
use Rattle.issuer_rules.proofs.StageLaws.{unread_at, reaches, stops_asking}
use Rattle.issuer_rules.proofs.advice.decide_fresh.Goals as goal

pub acknowledge-requires : goal.acknowledge-requires
acknowledge-requires g c = record {
  follows = follows_else _ _ _ _ _ _ c.requires.at.follows (other_number _ _ (λ zero. c.if-code-ne0.true (c.code.ensures.value ∙ zero)));
}

pub ask-requires : goal.ask-requires
ask-requires g c = unread_at (key.Card c.args.advice.now.transaction.pan) c.requires.at refl

pub acknowledge-requires-in_default : goal.acknowledge-requires-in_default
acknowledge-requires-in_default g c =
    let a = c.args.advice.now in
    record {
      follows =
          looked_as _ _ _ _ _ _ _ _ _ _ (follows_then _ _ _ _ (table.looked_for_card a) _ c.requires.at.follows (same_number _ _ (sym c.code.ensures.value ∙ c.if-code-ne0.false)))
          c.in_ok-ask.ensures.logged c.in_ok-ask.ensures.writes refl
          (ap (table.advice_on_card a) (read_as typed.card_in c.latest.ensures c.card_in.ensures c.in_default.is));
    }

pub decide_on_account-requires : goal.decide_on_account-requires
decide_on_account-requires g c = record {
  at =
      let a = c.args.advice.now in
      reaches _ _ c.requires.at c.in_ok-ask.ensures.logged
      (looked_as _ _ _ _ _ _ _ _ _ _ (follows_then _ _ _ _ (table.looked_for_card a) _ c.requires.at.follows (same_number _ _ (sym c.code.ensures.value ∙ c.if-code-ne0.false)))
      c.in_ok-ask.ensures.logged c.in_ok-ask.ensures.writes refl
      (ap (table.advice_on_card a) (read_as typed.card_in c.latest.ensures c.card_in.ensures c.in-Some.is) ∙ ap (table.advice_on_named a) (sym (c.copied.ensures ∙ c.account_of.ensures) ∙ c.in-Some-copied.is)));
}

pub acknowledge-requires-in-None : goal.acknowledge-requires-in-None
acknowledge-requires-in-None g c =
    let a = c.args.advice.now in
    record {
      follows =
          looked_as _ _ _ _ _ _ _ _ _ _ (follows_then _ _ _ _ (table.looked_for_card a) _ c.requires.at.follows (same_number _ _ (sym c.code.ensures.value ∙ c.if-code-ne0.false)))
          c.in_ok-ask.ensures.logged c.in_ok-ask.ensures.writes refl
          (ap (table.advice_on_card a) (read_as typed.card_in c.latest.ensures c.card_in.ensures c.in-Some.is) ∙ ap (table.advice_on_named a) (sym (c.copied.ensures ∙ c.account_of.ensures) ∙ c.in-None.is));
    }

pub returns-in_err-ask : goal.returns-in_err-ask
returns-in_err-ask g c = stops_asking c.requires.at.follows c.in_err-ask.ensures.err c.in_err-ask.ensures.stop c.in_err-ask.ensures.stops c.in_err-ask.ensures.book c.from_residual.ensures.1
