use Rattle.stm_journal_text.specs.declared.event.Event.TheVariants.{ValidateOne}
use Rattle.stm_journal.specs.Answered.{validated}
use Rattle.stm_journal.proofs.Asked.{entered_last}
use Rattle.stm_journal.proofs.traced.TracedSharedCore.validate_one.Goals as goal

pub invariant_of-self-2 : goal.invariant_of-self-2
invariant_of-self-2 c =
    entered_last c.self.inside.core c.self.inside.entries.items c.reserve.new.self.items c.enter.new.entries.items c.args.seat ValidateOne (validated c.validate_one-answer.result) c.validate_one-answer.new.core
    c.self.invariant c.validate_one-answer.ensures.answer c.validate_one-answer.ensures.entered c.reserve.ensures.items c.enter.ensures
