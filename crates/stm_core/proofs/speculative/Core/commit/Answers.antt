use Rattle.std.proofs.Common.{subst}
use Rattle.stm_core_laws.specs.Words.{Commit, Play, PlayStep, State}
use Rattle.stm_core.proofs.Steps.{commit_play, play, sound_kept}
use Rattle.stm_core.specs.contracts.speculative.Core.{the_view}
use Rattle.stm_core.proofs.speculative.Core.commit.Goals as goal

abbrev after : goal.After-commit → Play
after c = play (record (the_view c.self.inside).state { board = c.commit.new.self.board }) c.commit.new.self.execution c.commit.new.self.validation

step_there : (c : goal.After-commit) → PlayStep (the_view c.self.inside) (Commit c.commit.result) (after c)
step_there c =
    let s : State = (the_view c.self.inside).state in
    commit_play s c.self.invariant.holds c.self.inside.scheduler.execution c.self.inside.scheduler.validation c.commit.result c.commit.new.self c.commit.ensures.fresh c.commit.ensures.otherwise

pub invariant_of-self : goal.invariant_of-self
invariant_of-self c = sound_kept (the_view c.self.inside) (Commit c.commit.result) (after c) c.self.invariant (step_there c)

pub returns : goal.returns
returns c = record { step = subst (λ (p : Play). PlayStep p (Commit c.commit.result) (after c)) c.self.view_is (step_there c) }
