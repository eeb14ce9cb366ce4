use Rattle.std.proofs.Common.{refl, sym, ap, ◌∙◌}
use Rattle.issuer_rules.proofs.FollowingLaws.{follows_then, follows_else}
use Rattle.issuer_rules.proofs.StageLaws.{stops_putting, answers_with_one, answers_with_none}
use Rattle.issuer_rules.proofs.PutLaws.{without_puts}
use Rattle.issuer_rules.proofs.request_answers.answer_marked.Goals as goal

pub returns-then-not-is_marked : goal.returns-then-not-is_marked
returns-then-not-is_marked g c = answers_with_none (follows_else _ _ _ _ _ _ c.requires.follows (sym c.is_marked.ensures ∙ c.if-not-is_marked.true)) refl

pub returns-in_err-write_copy : goal.returns-in_err-write_copy
returns-in_err-write_copy g c = stops_putting c.requires.follows (ap without_puts c.in_err-write_copy.ensures.err) c.in_err-write_copy.ensures.stop c.from_residual.ensures.1

pub returns : goal.returns
returns g c =
    answers_with_one (follows_then _ _ _ _ _ _ c.requires.follows (sym c.is_marked.ensures ∙ c.if-not-is_marked.false)) c.in_ok-write_copy.ensures.ok
    (λ i. (c.requires.named i, c.kept_of.ensures i)) refl
