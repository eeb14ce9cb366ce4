use Rattle.iso_laws.proofs.BitsFaults.{secondary_bitmap}
use Rattle.iso_laws.proofs.laws.names_a_secondary_bitmap.Goals as goal

pub returns : goal.returns
returns c = secondary_bitmap
