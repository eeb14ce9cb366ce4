use Rattle.book_laws.proofs.WrittenTokens.{then}
use Rattle.reason_json.proofs.rows.put_account.Goals as goal

pub returns : goal.returns
returns c =
    then c.in_ok-begin_row.ensures (then c.in_ok-balance_field.ensures (then c.in_ok-currency_field.ensures (then c.in_ok-account_field.ensures c.in_ok-end_object.ensures)))
