use Rattle.message_text.proofs.ElementMembers.{amount_again}
use Rattle.message_text.proofs.transaction_values.value_in_transaction.Goals as goal

pub returns-in-Amount : goal.returns-in-Amount
returns-in-Amount c = rw (c.in-Amount.is) (amount_again _ _ c.minor.ensures.value c.minor.ensures.bound)
