use Rattle.file_listing.proofs.BlocksPackedAgain.{packed_again}
use Rattle.file_listing.proofs.laws.texts_are_packed_again.Goals as goal

pub returns : goal.returns
returns c = packed_again
