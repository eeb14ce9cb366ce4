use Rattle.book_laws.proofs.WrittenTokens.{then}
use Rattle.reason_json.proofs.rows.put_mark.Goals as goal

pub returns : goal.returns
returns c =
    then c.in_ok-begin_row.ensures (then c.in_ok-acquirer_field.ensures (then c.in_ok-kind_field.ensures (then c.in_ok-pan_field.ensures (then c.in_ok-identity_field.ensures (then c.in_ok-stamp_field.ensures (then c.in_ok-stan_field.ensures c.in_ok-end_object.ensures))))))
