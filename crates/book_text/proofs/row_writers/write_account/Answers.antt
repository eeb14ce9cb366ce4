use Rattle.book_laws.proofs.WrittenTokens.{then}
use Rattle.book_text.proofs.row_writers.write_account.Goals as goal

pub returns : goal.returns
returns c =
    then c.in_ok-begin_object.ensures (then c.in_ok-balance_field.ensures (then c.in_ok-currency_field.ensures (then c.in_ok-account_id_field.ensures c.in_ok-end_object.ensures)))
