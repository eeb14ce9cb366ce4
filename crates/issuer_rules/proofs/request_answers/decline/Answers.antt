use Rattle.std.proofs.Common.{refl, ap}
use Rattle.issuer_rules.proofs.StageLaws.{stops_putting, answers_with_one}
use Rattle.issuer_rules.proofs.PutLaws.{without_puts}
use Rattle.issuer_rules.proofs.request_answers.decline.Goals as goal

pub returns-in_err-write_copy : goal.returns-in_err-write_copy
returns-in_err-write_copy g c = stops_putting c.requires.follows (ap without_puts c.in_err-write_copy.ensures.err) c.in_err-write_copy.ensures.stop c.from_residual.ensures.1

pub returns : goal.returns
returns g c = answers_with_one c.requires.follows c.in_ok-write_copy.ensures.ok (λ i. (c.requires.named i, c.kept_of-kept.ensures i)) refl
