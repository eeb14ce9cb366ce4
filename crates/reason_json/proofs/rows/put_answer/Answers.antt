use Rattle.book_laws.proofs.WrittenTokens.{then}
use Rattle.reason_json.proofs.rows.put_answer.Goals as goal

pub returns : goal.returns
returns c =
    then c.in_ok-action_field.ensures (then c.in_ok-amount_field.ensures c.in_ok-optional_approval_field.ensures)
