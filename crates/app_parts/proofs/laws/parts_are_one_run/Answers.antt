use Rattle.app_parts.proofs.OneRun.{one_run}
use Rattle.app_parts.proofs.laws.parts_are_one_run.Goals as goal

pub returns : goal.returns
returns c c2 = one_run _ _ _
