use Rattle.engine_locked.proofs.Finished.{done_finished}
use Rattle.engine_locked.proofs.alone.take_turn.Goals as goal

pub returns-in-Claimed-Done : goal.returns-in-Claimed-Done
returns-in-Claimed-Done g c =
    λ _. done_finished c.args.traced.now.core c.step.new.self.core c.first.result c.step.new.self.entries (rw c.in-Claimed-Done.field-0-is at c.in-Claimed-Done.ensures.step.answers)
