use Rattle.std.proofs.Common.{Some, sym, ap, ◌∙◌}
use Rattle.issuer_rows.specs.Kept.{payment_of_outcome}
use Rattle.issuer_rows.specs.ReversalTable as table
use Rattle.issuer_rules.proofs.FollowingLaws.{follows_as, follows_then}
use Rattle.issuer_rules.proofs.StageLaws.{answers_with_none}
use Rattle.issuer_rules.proofs.reversal.decide_on_payment.Goals as goal

pub returns-then-is_wrong_part : goal.returns-then-is_wrong_part
returns-then-is_wrong_part g c =
    let v = c.args.reversal.now in
    let k = c.args.kept.now in
    let posted = sym (c.payment.ensures ∙ ap payment_of_outcome c.outcome.ensures) ∙ c.in-Some.is in
    answers_with_none
    (follows_then _ _ _ _ _ _ (follows_as _ _ _ _ (table.on_payment v k (Some c.in-Some.payment)) (ap (table.on_payment v k) posted) c.requires.at.follows) (sym c.is_wrong_part.ensures ∙ c.if-is_wrong_part.true)) c.unchanged.ensures
