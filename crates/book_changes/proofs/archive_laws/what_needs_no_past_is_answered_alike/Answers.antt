use Rattle.book_changes.proofs.Alike.{answers_alike}
use Rattle.book_changes.proofs.archive_laws.what_needs_no_past_is_answered_alike.Goals as goal

pub returns : goal.returns
returns c = answers_alike
