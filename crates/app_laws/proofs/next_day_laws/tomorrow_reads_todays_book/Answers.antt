use Rattle.app_laws.proofs.NextDay.{reads_todays_book}
use Rattle.app_laws.proofs.next_day_laws.tomorrow_reads_todays_book.Goals as goal

pub returns : goal.returns
returns c = reads_todays_book
