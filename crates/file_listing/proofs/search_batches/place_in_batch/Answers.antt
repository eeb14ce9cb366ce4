use Rattle.file_laws.specs.Reading.{batch_magic}
use Rattle.file_listing.proofs.Faults.{batch_fails, batch_is_read}
use Rattle.file_listing.proofs.search_batches.place_in_batch.Goals as goal

pub returns-in-Err-clause-fault : goal.returns-in-Err-clause-fault
returns-in-Err-clause-fault c = batch_fails batch_magic c.args.file.now c.in-Err.place c.in-Err.ensures.err

pub returns-in-Ok-clause-none : goal.returns-in-Ok-clause-none
returns-in-Ok-clause-none c = batch_is_read batch_magic c.args.file.now c.in-Ok.ensures.ok
