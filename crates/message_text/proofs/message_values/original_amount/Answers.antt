use Rattle.message_text.proofs.ElementMembers.{first_amount_again}
use Rattle.message_text.proofs.message_values.original_amount.Goals as goal

pub returns-in-Partial : goal.returns-in-Partial
returns-in-Partial c = rw (c.in-Partial.is) (first_amount_again _ _ c.minor.ensures.value c.minor.ensures.bound)
