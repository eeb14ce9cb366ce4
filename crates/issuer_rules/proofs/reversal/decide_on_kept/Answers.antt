use Rattle.std.proofs.Common.{refl, sym, ◌∙◌}
use Rattle.issuer_rules.proofs.FollowingLaws.{follows_else}
use Rattle.issuer_rules.proofs.StageLaws.{concludes, answers_with_none}
use Rattle.issuer_rules.proofs.reversal.decide_on_kept.Goals as goal

pub returns-then-not-is_named : goal.returns-then-not-is_named
returns-then-not-is_named g c =
    answers_with_none (follows_else _ _ _ _ _ _ c.requires.at.follows (sym c.is_named.ensures ∙ c.if-not-is_named.true)) c.unchanged.ensures

pub returns-in-Some : goal.returns-in-Some
returns-in-Some g c = concludes c.answer_settled.ensures refl
