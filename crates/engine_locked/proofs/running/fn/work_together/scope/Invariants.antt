use Rattle.issuer_fold.specs.Run.{IsStarted}
use Rattle.engine_locked.proofs.running.fn.work_together.scope.Given as goal

abbrev pub invariant-loop-number : goal.invariant-loop-number
invariant-loop-number g l = IsStarted l.started l.number
