use Rattle.stm_memory.proofs.Loops.{Putting}
use Rattle.stm_memory.proofs.mv_memory.put_all.Given as goal

abbrev pub invariant-loop-place : goal.invariant-loop-place
invariant-loop-place l = Putting l.fn.chains l.chains l.list.numbers l.list.room l.writes l.version.index l.version.incarnation l.place l.is_new
