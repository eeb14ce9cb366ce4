use Rattle.stm_core_laws.proofs.Unique.{unique-Step}
use Rattle.stm_core_laws.proofs.laws.steps_are_determined.Goals as goal

pub returns : goal.returns
returns c = unique-Step
