use Rattle.file_listing.proofs.Faults.{replies_fail, replies_are_read}
use Rattle.file_listing.proofs.search_batches.place_in_replies.Goals as goal

pub returns-in-Err-clause-fault : goal.returns-in-Err-clause-fault
returns-in-Err-clause-fault c = replies_fail c.args.file.now c.in-Err.place c.in-Err.ensures.err

pub returns-in-Ok-clause-none : goal.returns-in-Ok-clause-none
returns-in-Ok-clause-none c = replies_are_read c.args.file.now c.in-Ok.ensures.ok
