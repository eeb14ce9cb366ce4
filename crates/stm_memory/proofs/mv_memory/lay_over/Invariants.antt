use Rattle.stm_memory.proofs.Laid.{Laying}
use Rattle.stm_memory.proofs.mv_memory.lay_over.Given as goal

abbrev pub invariant-loop-number : goal.invariant-loop-number
invariant-loop-number l = Laying l.chains l.index l.fn.book l.book l.number
