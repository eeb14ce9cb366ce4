use Rattle.stm_core_laws.proofs.Reached.{replies-Run, rows-Run}
use Rattle.stm_core_laws.proofs.laws.committed_is_the_fold.Goals as goal

pub returns-clause-replies : goal.returns-clause-replies
returns-clause-replies c = replies-Run

pub returns-clause-rows : goal.returns-clause-rows
returns-clause-rows c = rows-Run
