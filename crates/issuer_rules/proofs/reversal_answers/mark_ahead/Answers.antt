use Rattle.std.proofs.Common.{ap}
use Rattle.issuer_rows.specs.declared.row_key.RowKey.TheVariants as key
use Rattle.issuer_rows.specs.declared.row_val.RowVal.TheVariants as val
use Rattle.issuer_rules.proofs.StageLaws.{stops_putting, answers_with_one}
use Rattle.issuer_rules.proofs.PutLaws.{without_puts}
use Rattle.issuer_rules.proofs.reversal_answers.mark_ahead.Goals as goal

pub returns-in_err-write : goal.returns-in_err-write
returns-in_err-write g c = stops_putting c.requires.follows (ap without_puts c.in_err-write.ensures.err) c.in_err-write.ensures.stop c.from_residual.ensures.1

pub returns : goal.returns
returns g c =
    let v = c.args.reversal.now in
    answers_with_one c.requires.follows c.in_ok-write.ensures.ok
    (λ i. (key.Original v.original.identity, val.Ahead (record { card = v.transaction.pan; kind = v.original.kind; reversal = c.identity.ensures i }))) c.unchanged.ensures
