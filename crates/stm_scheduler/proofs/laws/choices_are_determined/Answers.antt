use Rattle.stm_scheduler.proofs.Choices.{Chooses-allowed, choice-unique}
use Rattle.stm_scheduler.proofs.laws.choices_are_determined.Goals as goal

pub returns-clause-allowed : goal.returns-clause-allowed
returns-clause-allowed c = Chooses-allowed

pub returns-clause-one : goal.returns-clause-one
returns-clause-one c = choice-unique
