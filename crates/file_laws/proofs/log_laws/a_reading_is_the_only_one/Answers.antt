use Rattle.file_laws.proofs.Readings.{one_reading}
use Rattle.file_laws.proofs.log_laws.a_reading_is_the_only_one.Goals as goal

pub returns : goal.returns
returns c = one_reading
