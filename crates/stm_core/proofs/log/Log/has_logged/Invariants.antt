use Rattle.std.proofs.Common.{take}
use Rattle.stm_core_laws.specs.Log.{AreLogged}
use Rattle.stm_core.proofs.log.Log.has_logged.Given as goal

abbrev pub invariant-loop-index : goal.invariant-loop-index
invariant-loop-index l = AreLogged l.self (take l.index l.reads)
