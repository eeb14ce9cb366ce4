use Rattle.std.proofs.Common.{ℕ, List}
use Rattle.stm_scheduler.proofs.Lists.{Waking, waiting_count}
use Rattle.stm_scheduler.proofs.waiters.wake.Given as goal

abbrev pub invariant-loop-next : goal.invariant-loop-next
invariant-loop-next l = (rest : List ℕ) × Waking l.fn.marks.items l.marks.items l.nexts l.next l.index l.cursor l.least rest

abbrev pub decreases-loop-next : goal.decreases-loop-next
decreases-loop-next l = waiting_count l.index l.marks.items
