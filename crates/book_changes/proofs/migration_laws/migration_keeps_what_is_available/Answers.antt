use Rattle.book_changes.proofs.Migrating.{keeps_available}
use Rattle.book_changes.proofs.migration_laws.migration_keeps_what_is_available.Goals as goal

pub returns : goal.returns
returns c = keeps_available
