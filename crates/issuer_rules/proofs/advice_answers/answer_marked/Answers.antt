use Rattle.std.proofs.Common.{sym, ap, ◌∙◌}
use Rattle.issuer_rows.specs.declared.row_key.RowKey.TheVariants as key
use Rattle.issuer_rules.proofs.FollowingLaws.{follows_then, follows_else}
use Rattle.issuer_rules.proofs.StageLaws.{stops_putting, answers_with_one, answers_with_none}
use Rattle.issuer_rules.proofs.PutLaws.{without_puts}
use Rattle.issuer_rules.proofs.advice_answers.answer_marked.Goals as goal

pub returns-then-not-is_marked : goal.returns-then-not-is_marked
returns-then-not-is_marked g c = answers_with_none (follows_else _ _ _ _ _ _ c.requires.follows (sym c.is_marked.ensures ∙ c.if-not-is_marked.true)) c.reply_to.ensures

pub returns-in_err-write : goal.returns-in_err-write
returns-in_err-write g c = stops_putting c.requires.follows (ap without_puts c.in_err-write.ensures.err) c.in_err-write.ensures.stop c.from_residual.ensures.1

pub returns : goal.returns
returns g c =
    answers_with_one (follows_then _ _ _ _ _ _ c.requires.follows (sym c.is_marked.ensures ∙ c.if-not-is_marked.false)) c.in_ok-write.ensures.ok
    (λ i. (key.Original (c.identity.ensures i), c.kept_of.ensures i)) c.reply_to-2.ensures
