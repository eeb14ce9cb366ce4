use Rattle.std.proofs.lemmas.Result.{on_ok_weaker}
use Rattle.book_laws.proofs.WrittenTokens.{then}
use Rattle.reason_json.proofs.keys.put_key.Goals as goal

pub returns-in_ok-pan_field-in-Velocity : goal.returns-in_ok-pan_field-in-Velocity
returns-in_ok-pan_field-in-Velocity c = rw c.in-Velocity.is (on_ok_weaker _ (then c.in_ok-pan_field-in-Velocity.ensures) c.day_field.ensures)

pub returns-in_ok-stamp_field-in-Original : goal.returns-in_ok-stamp_field-in-Original
returns-in_ok-stamp_field-in-Original c =
    rw c.in-Original.is (on_ok_weaker _ (λ stan. then c.in_ok-acquirer_field-in-Original.ensures (then c.in_ok-stamp_field-in-Original.ensures stan)) c.stan_field.ensures)
