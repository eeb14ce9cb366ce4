use Rattle.book_changes.proofs.Alike.{later_needs_no_past}
use Rattle.book_changes.proofs.archive_laws.a_message_of_a_later_day_needs_no_past.Goals as goal

pub returns : goal.returns
returns c = later_needs_no_past
