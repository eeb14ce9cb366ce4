use Rattle.file_laws.specs.Texts.{last_digest}
use Rattle.file_laws.proofs.Readings.{faulty_behind, read_first}
use Rattle.file_laws.proofs.LogSteps.{torn_no_entry}
use Rattle.file_laws.proofs.log_laws.what_was_synced_is_read.Goals as goal

pub returns-clause-read : goal.returns-clause-read
returns-clause-read c = λ book behind entries others tail len are log.
    read_first book behind entries others tail are log.stands (torn_no_entry (last_digest book others) tail log.torn)

pub returns-clause-broken : goal.returns-clause-broken
returns-clause-broken c = faulty_behind
