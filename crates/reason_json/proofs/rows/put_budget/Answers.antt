use Rattle.book_laws.proofs.WrittenTokens.{then}
use Rattle.reason_json.proofs.rows.put_budget.Goals as goal

pub returns : goal.returns
returns c =
    then c.in_ok-begin_row.ensures (then c.in_ok-balance_field.ensures (then c.in_ok-balance_field-2.ensures (then c.in_ok-mode_field.ensures (then c.in_ok-prefix_field.ensures c.in_ok-end_object.ensures))))
