use Rattle.book_laws.proofs.WrittenTokens.{then}
use Rattle.reason_json.proofs.rows.put_limits.Goals as goal

pub returns : goal.returns
returns c =
    then c.in_ok-count_field.ensures (then c.in_ok-balance_field.ensures (then c.in_ok-count_field-2.ensures c.in_ok-expiry_field.ensures))
