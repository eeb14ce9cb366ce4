use Rattle.std.proofs.Common.{refl, sym, ap, ◌∙◌}
use Rattle.issuer_rows.specs.RequestTable.{reply_to_request, kept_verdict}
use Rattle.issuer_rules.proofs.FollowingLaws.{follows_then, follows_else, concluded_with_none}
use Rattle.issuer_rules.proofs.request_answers.answer_kept.Goals as goal

pub returns-then-is_repeat_of : goal.returns-then-is_repeat_of
returns-then-is_repeat_of g c =
    concluded_with_none _ c.args.rows.now _ _ (follows_then _ _ _ _ _ _ c.requires (sym c.is_repeat_of.ensures ∙ c.if-is_repeat_of.true))
    (ap (reply_to_request c.args.request.now) (c.kept_verdict.ensures ∙ ap kept_verdict c.outcome.ensures))

pub returns : goal.returns
returns g c =
    concluded_with_none _ c.args.rows.now _ _ (follows_else _ _ _ _ _ _ c.requires (sym c.is_repeat_of.ensures ∙ c.if-is_repeat_of.false)) refl
