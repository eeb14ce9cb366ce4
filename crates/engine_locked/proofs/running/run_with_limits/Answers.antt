use Rattle.stm_core_laws.specs.Play.{opening_play}
use Rattle.engine_locked.proofs.Finished.{committed_so}
use Rattle.engine_locked.proofs.running.run_with_limits.Goals as goal

pub returns-clause-journal : goal.returns-clause-journal
returns-clause-journal g c =
    committed_so (opening_play c.args.book.now c.args.frames.now c.args.limits) c.in_ok-core.core c.outcome_of.result c.in_ok-core.ensures.finished c.outcome_of.ensures.journal
