use Rattle.book_changes.proofs.Alike.{archives_any_time}
use Rattle.book_changes.proofs.archive_laws.a_book_is_archived_at_any_time.Goals as goal

pub returns : goal.returns
returns c = archives_any_time
