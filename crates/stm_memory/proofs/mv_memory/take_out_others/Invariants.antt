use Rattle.std.proofs.Common.{◌-◌, ◌≤◌, length}
use Rattle.issuer_view.specs.RowSets.{value_in}
use Rattle.stm_memory.proofs.Loops.{TakingOut}
use Rattle.stm_memory.proofs.mv_memory.take_out_others.Given as goal

abbrev pub invariant-loop-place : goal.invariant-loop-place
invariant-loop-place l = record {
  taking : TakingOut l.fn.chains l.chains l.fn.list.numbers l.list.numbers l.index l.place (value_in l.writes);
  room : l.fn.list.room ≤ l.list.room;
}

abbrev pub decreases-loop-place : goal.decreases-loop-place
decreases-loop-place l = length l.list.numbers - l.place
