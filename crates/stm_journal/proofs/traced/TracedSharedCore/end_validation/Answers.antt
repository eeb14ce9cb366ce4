use Rattle.stm_journal_text.specs.declared.event.Event.TheVariants.{EndValidation}
use Rattle.stm_journal.specs.Answered.{ended}
use Rattle.stm_journal.proofs.Asked.{entered_last, end_finished}
use Rattle.stm_journal.proofs.traced.TracedSharedCore.end_validation.Goals as goal

pub invariant_of-self-2 : goal.invariant_of-self-2
invariant_of-self-2 c =
    entered_last c.self.inside.core c.self.inside.entries.items c.reserve.new.self.items c.enter.new.entries.items c.args.seat EndValidation (ended c.end_validation-answer.result) c.end_validation-answer.new.core
    c.self.invariant c.end_validation-answer.ensures.answer c.end_validation-answer.ensures.entered c.reserve.ensures.items c.enter.ensures

pub returns-clause-exhausted : goal.returns-clause-exhausted
returns-clause-exhausted c =
    end_finished c.self.inside.core c.end_validation-answer.new.core c.self.inside.entries.items c.reserve.new.self.items c.enter.new.entries.items c.args.seat c.end_validation-answer.result
    c.self.invariant c.end_validation-answer.ensures.answer c.reserve.ensures.items c.enter.ensures
