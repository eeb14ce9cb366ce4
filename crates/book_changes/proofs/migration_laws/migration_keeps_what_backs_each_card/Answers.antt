use Rattle.book_changes.proofs.Migrating.{keeps_backings}
use Rattle.book_changes.proofs.migration_laws.migration_keeps_what_backs_each_card.Goals as goal

pub returns : goal.returns
returns c = keeps_backings
