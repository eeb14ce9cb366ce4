use Rattle.book_laws.proofs.WrittenTokens.{then}
use Rattle.book_text.proofs.row_writers.write_card.Goals as goal

pub returns : goal.returns
returns c =
    then c.in_ok-begin_object.ensures (then c.in_ok-first_account_field.ensures (then c.in_ok-count_field.ensures (then c.in_ok-balance_field.ensures (then c.in_ok-count_field-2.ensures (then c.in_ok-expiry_field.ensures (then c.in_ok-pan_field.ensures (then c.in_ok-second_account_field.ensures (then c.in_ok-status_field.ensures c.in_ok-end_object.ensures))))))))
