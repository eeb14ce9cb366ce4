use Rattle.issuer_laws.proofs.Order.{any_order}
use Rattle.issuer_laws.proofs.part_laws.messages_that_share_no_row_take_any_order.Goals as goal

pub returns : goal.returns
returns c = any_order
