use Rattle.stm_memory.proofs.Loops.{Estimating}
use Rattle.stm_memory.proofs.mv_memory.estimate_all.Given as goal

abbrev pub invariant-loop-place : goal.invariant-loop-place
invariant-loop-place l = Estimating l.fn.chains l.chains l.list.numbers l.index l.place
