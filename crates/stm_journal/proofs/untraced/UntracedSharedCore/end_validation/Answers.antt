use Rattle.stm_journal_text.specs.declared.event.Event.TheVariants.{EndValidation}
use Rattle.stm_journal.specs.Answered.{ended}
use Rattle.stm_journal.proofs.Asked.{some_play_on}
use Rattle.stm_journal.proofs.untraced.UntracedSharedCore.end_validation.Goals as goal

pub invariant_of-self : goal.invariant_of-self
invariant_of-self c = some_play_on c.self.inside.core c.args.seat EndValidation (ended c.end_validation.result) c.end_validation.new.core c.self.invariant c.end_validation.ensures.answer
