use Rattle.file_laws.proofs.Once.{batch_taken}
use Rattle.file_laws.proofs.laws.a_batch_that_is_read_is_its_text.Goals as goal

pub returns : goal.returns
returns c = batch_taken
