use Rattle.file_laws.proofs.Again.{batch_again}
use Rattle.file_laws.proofs.laws.a_batch_is_read_as_its_bodies.Goals as goal

pub returns : goal.returns
returns c = batch_again
