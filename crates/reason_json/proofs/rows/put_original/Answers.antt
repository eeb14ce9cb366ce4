use Rattle.book_laws.proofs.WrittenTokens.{then}
use Rattle.reason_json.proofs.RowTokens.{original_tokens, written_as}
use Rattle.reason_json.proofs.rows.put_original.Goals as goal

pub returns : goal.returns
returns c =
    written_as (original_tokens c.args.cards c.args.identity c.args.original.now)
    (then c.in_ok-begin_row.ensures (then c.in_ok-optional_account_field.ensures (then c.in_ok-acquirer_field.ensures (then c.in_ok-put_answer.ensures (then c.in_ok-put_payment.ensures (then c.in_ok-stamp_field.ensures (then c.in_ok-amount_field.ensures (then c.in_ok-stan_field.ensures c.in_ok-end_object.ensures))))))))
