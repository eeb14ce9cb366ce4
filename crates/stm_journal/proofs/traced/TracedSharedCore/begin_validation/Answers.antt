use Rattle.stm_journal_text.specs.declared.event.Event.TheVariants.{BeginValidation}
use Rattle.stm_journal.specs.Answered.{validated}
use Rattle.stm_journal.proofs.Asked.{entered_last}
use Rattle.stm_journal.proofs.traced.TracedSharedCore.begin_validation.Goals as goal

pub invariant_of-self-2 : goal.invariant_of-self-2
invariant_of-self-2 c =
    entered_last c.self.inside.core c.self.inside.entries.items c.reserve.new.self.items c.enter.new.entries.items c.args.seat (BeginValidation c.args.version) (validated c.begin_validation-answer.result) c.begin_validation-answer.new.core
    c.self.invariant c.begin_validation-answer.ensures.answer c.begin_validation-answer.ensures.entered c.reserve.ensures.items c.enter.ensures
