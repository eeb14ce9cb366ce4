use Rattle.book_changes.proofs.Days.{days_covered, limits_kept}
use Rattle.book_changes.proofs.archive_laws.days_stay_in_order.Goals as goal

pub returns-clause-covered : goal.returns-clause-covered
returns-clause-covered c = days_covered

pub returns-clause-limits : goal.returns-clause-limits
returns-clause-limits c = limits_kept
