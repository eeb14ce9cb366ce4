use Rattle.book_laws.proofs.WrittenTokens.{then}
use Rattle.reason_json.proofs.rows.put_payment.Goals as goal

pub returns : goal.returns
returns c =
    then c.in_ok-kind_field.ensures (then c.in_ok-paid_field.ensures (then c.in_ok-pan_field.ensures (then c.in_ok-processing_field.ensures c.in_ok-optional_identity_field.ensures)))
