use Rattle.stm_journal_text.specs.declared.event.Event.TheVariants.{ValidateOne}
use Rattle.stm_journal.specs.Answered.{validated}
use Rattle.stm_journal.proofs.Asked.{some_play_on}
use Rattle.stm_journal.proofs.untraced.UntracedSharedCore.validate_one.Goals as goal

pub invariant_of-self : goal.invariant_of-self
invariant_of-self c = some_play_on c.self.inside.core c.args.seat ValidateOne (validated c.validate_one.result) c.validate_one.new.core c.self.invariant c.validate_one.ensures.answer
