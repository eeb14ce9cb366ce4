use Rattle.std.proofs.Common.{arith}
use Rattle.iso_encoder.proofs.Joining.{bitmap_of-with, is_some-map}
use Rattle.iso_encoder.proofs.encoding.bitmap_of.Goals as goal

pub returns-clause-value : goal.returns-clause-value
returns-clause-value c = simp (bitmap_of-with, is_some-map) (omega arith)
