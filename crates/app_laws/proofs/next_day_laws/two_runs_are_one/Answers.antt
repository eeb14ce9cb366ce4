use Rattle.app_laws.proofs.NextDay.{are_one_run}
use Rattle.app_laws.proofs.next_day_laws.two_runs_are_one.Goals as goal

pub returns : goal.returns
returns c = are_one_run
