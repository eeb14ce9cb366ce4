use Rattle.std.proofs.Common.{sym, ◌∙◌}
use Rattle.issuer_rules.proofs.FollowingLaws.{follows_then, follows_else, concluded_with_none}
use Rattle.issuer_rules.proofs.reversal_answers.answer_settled.Goals as goal

pub returns-then-is_repeat_of : goal.returns-then-is_repeat_of
returns-then-is_repeat_of g c =
    concluded_with_none _ c.args.rows.now _ _ (follows_then _ _ _ _ _ _ c.requires (sym c.is_repeat_of.ensures ∙ c.if-is_repeat_of.true)) c.unchanged.ensures

pub returns : goal.returns
returns g c =
    concluded_with_none _ c.args.rows.now _ _ (follows_else _ _ _ _ _ _ c.requires (sym c.is_repeat_of.ensures ∙ c.if-is_repeat_of.false)) c.unchanged-2.ensures
