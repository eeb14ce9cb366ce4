use Rattle.std.proofs.Common.{refl, sym, ap, ◌∙◌, option_map, not, ◌==◌}
use Rattle.issuer_rows.specs.ReversalTable as table
use Rattle.issuer_rows.specs.declared.row_key.RowKey.TheVariants as key
use Rattle.issuer_rows.specs.Typed as typed
use Rattle.std.specs.List.{list_all}
use Rattle.issuer_rules.proofs.FollowingLaws.{read_as, looked_as, kinds_more}
use Rattle.issuer_rules.proofs.StageLaws.{unread_at, stops_asking}
use Rattle.issuer_rules.proofs.reversal.decide_by_account.Goals as goal

pub ask-requires : goal.ask-requires
ask-requires g c = unread_at (key.Account c.args.id) c.requires.at refl

pub decide_on_paid-requires-clause-follows : goal.decide_on_paid-requires-clause-follows
decide_on_paid-requires-clause-follows g c =
    looked_as _ _ _ _ _ _ _ _ _ _ c.requires.at.follows c.in_ok-ask.ensures.logged c.in_ok-ask.ensures.writes refl
    (ap (table.on_paid c.args.reversal.now c.args.kept.now) (ap (option_map _) (read_as typed.account_in c.latest.ensures c.account_in.ensures refl) ∙ sym c.account_funds-paid.ensures))

pub decide_on_paid-requires-clause-days : goal.decide_on_paid-requires-clause-days
decide_on_paid-requires-clause-days g c = ap (λ kinds. list_all (λ kind. not (1 == kind)) kinds) (kinds_more _ _ _ _ _ c.requires.at.kinds c.in_ok-ask.ensures.logged)

pub returns-in_err-ask : goal.returns-in_err-ask
returns-in_err-ask g c = stops_asking c.requires.at.follows c.in_err-ask.ensures.err c.in_err-ask.ensures.stop c.in_err-ask.ensures.stops c.in_err-ask.ensures.book c.from_residual.ensures.1
