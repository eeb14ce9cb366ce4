use Rattle.std.proofs.Common.{ap, ◌∙◌}
use Rattle.issuer_rows.specs.Kept.{settled}
use Rattle.issuer_rows.specs.declared.row_key.RowKey.TheVariants as key
use Rattle.issuer_rows.specs.declared.row_val.RowVal.TheVariants as val
use Rattle.issuer_rules.proofs.StageLaws.{stops_putting, answers_with_one}
use Rattle.issuer_rules.proofs.PutLaws.{without_puts}
use Rattle.issuer_rules.proofs.reversal_answers.settle_unposted.Goals as goal

pub returns-in_err-write : goal.returns-in_err-write
returns-in_err-write g c = stops_putting c.requires.follows (ap without_puts c.in_err-write.ensures.err) c.in_err-write.ensures.stop c.from_residual.ensures.1

pub returns : goal.returns
returns g c =
    let v = c.args.reversal.now in
    let kept = c.settled-settled.ensures ∙ ap (λ by. settled c.args.kept.now by 0) c.identity.ensures in
    answers_with_one c.requires.follows c.in_ok-write.ensures.ok (λ i. (key.Original v.original.identity, val.Kept (kept i)))
    c.unchanged.ensures
