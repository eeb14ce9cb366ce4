use Rattle.std.proofs.Common.{subst}
use Rattle.stm_core_laws.specs.Words.{Claim, Play, PlayStep, State}
use Rattle.stm_core.proofs.Steps.{claim_step, play, sound_kept}
use Rattle.stm_core.specs.contracts.speculative.Core.{the_view}
use Rattle.stm_core.proofs.speculative.Core.next_task.Goals as goal

abbrev after : goal.After-next_task → Play
after c = play (record (the_view c.self.inside).state { board = c.next_task.new.self.board }) c.next_task.new.self.execution c.next_task.new.self.validation

step_there : (c : goal.After-next_task) → PlayStep (the_view c.self.inside) (Claim c.next_task.result) (after c)
step_there c =
    let s : State = (the_view c.self.inside).state in
    (claim_step s c.self.invariant.holds c.self.inside.scheduler.execution c.self.inside.scheduler.validation c.next_task.result c.next_task.new.self c.next_task.ensures, c.next_task.ensures)

pub invariant_of-self : goal.invariant_of-self
invariant_of-self c = sound_kept (the_view c.self.inside) (Claim c.next_task.result) (after c) c.self.invariant (step_there c)

pub returns : goal.returns
returns c = record { step = subst (λ (p : Play). PlayStep p (Claim c.next_task.result) (after c)) c.self.view_is (step_there c) }
