use Rattle.file_laws.proofs.Whole.{some_reading}
use Rattle.file_laws.proofs.log_laws.every_file_has_a_reading.Goals as goal

pub returns : goal.returns
returns c = some_reading
