use Rattle.book_laws.proofs.WrittenTokens.{then}
use Rattle.book_text.proofs.field_writers.identity_field.Goals as goal

pub returns : goal.returns
returns c =
    then c.in_ok-name.ensures (then c.in_ok-begin_object.ensures (then c.in_ok-acquirer_field.ensures (then c.in_ok-stamp_field.ensures
    (then c.in_ok-stan_field.ensures c.in_ok-end_object.ensures))))
