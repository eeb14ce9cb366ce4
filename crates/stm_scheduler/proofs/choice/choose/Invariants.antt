use Rattle.std.proofs.Common.{◌≡◌, ◌-◌, ◌≤◌, length, ℕ, ◌+◌}
use Rattle.stm_scheduler.specs.Words.{Board, Chooses}
use Rattle.stm_scheduler.specs.declared.task.Task.{Task}
use Rattle.stm_scheduler.proofs.choice.choose.Given as goal

abbrev pub invariant-loop-validated : goal.invariant-loop-validated
invariant-loop-validated l = record {
  next : l.next ≤ length l.marks;
  validated : l.validated ≤ length l.marks;
  leads : (b : Board) → b.marks ≡ l.marks → b.committed ≡ l.committed → (answer : Task) (e v : ℕ) → Chooses b l.next l.validated answer e v → Chooses b l.fn.execution l.fn.validation answer e v;
}

abbrev pub decreases-loop-validated : goal.decreases-loop-validated
decreases-loop-validated l = (length l.marks - l.next) + (length l.marks - l.validated)
