use Rattle.stm_journal_text.specs.declared.event.Event.TheVariants.{BeginValidation}
use Rattle.stm_journal.specs.Answered.{validated}
use Rattle.stm_journal.proofs.Asked.{some_play_on}
use Rattle.stm_journal.proofs.untraced.UntracedSharedCore.begin_validation.Goals as goal

pub invariant_of-self : goal.invariant_of-self
invariant_of-self c = some_play_on c.self.inside.core c.args.seat (BeginValidation c.args.version) (validated c.begin_validation.result) c.begin_validation.new.core c.self.invariant c.begin_validation.ensures.answer
