use Rattle.file_listing.proofs.PackedAgain.{packed_again}
use Rattle.file_listing.proofs.laws.lines_are_packed_again.Goals as goal

pub returns : goal.returns
returns c = packed_again
