use Rattle.std.proofs.Common.{sym, ap, ◌∙◌}
use Rattle.issuer_words.specs.Words.{action_of_outcome, reply_to_advice}
use Rattle.issuer_rules.proofs.FollowingLaws.{follows_then, follows_else, concluded_with_none}
use Rattle.issuer_rules.proofs.advice_answers.answer_kept.Goals as goal

pub returns-then-is_repeat_of : goal.returns-then-is_repeat_of
returns-then-is_repeat_of g c =
    concluded_with_none _ c.args.rows.now _ _ (follows_then _ _ _ _ _ _ c.requires (sym c.is_repeat_of.ensures ∙ c.if-is_repeat_of.true))
    (c.reply_to.ensures ∙ ap (reply_to_advice c.args.advice.now) (c.action.ensures ∙ ap (λ o. action_of_outcome o) c.outcome.ensures))

pub returns : goal.returns
returns g c =
    concluded_with_none _ c.args.rows.now _ _ (follows_else _ _ _ _ _ _ c.requires (sym c.is_repeat_of.ensures ∙ c.if-is_repeat_of.false)) c.reply_to-2.ensures
