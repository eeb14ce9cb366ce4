use Rattle.book_laws.proofs.WrittenTokens.{then}
use Rattle.book_text.proofs.row_writers.write_original.Goals as goal

pub returns : goal.returns
returns c =
    then c.in_ok-begin_object.ensures (then c.in_ok-optional_account_id_field.ensures (then c.in_ok-acquirer_field.ensures (then c.in_ok-action_field.ensures (then c.in_ok-amount_field.ensures (then c.in_ok-optional_approval_field.ensures (then c.in_ok-kind_field.ensures (then c.in_ok-paid_field.ensures (then c.in_ok-pan_field.ensures (then c.in_ok-processing_field.ensures (then c.in_ok-optional_identity_field.ensures (then c.in_ok-stamp_field.ensures (then c.in_ok-amount_field-2.ensures (then c.in_ok-stan_field.ensures c.in_ok-end_object.ensures)))))))))))))
