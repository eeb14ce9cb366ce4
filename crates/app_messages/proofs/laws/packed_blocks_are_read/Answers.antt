use Rattle.app_messages.proofs.PackedAgain.{packed_are_read}
use Rattle.app_messages.proofs.laws.packed_blocks_are_read.Goals as goal

pub returns : goal.returns
returns c = packed_are_read
