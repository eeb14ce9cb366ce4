use Rattle.std.proofs.Common.{sym, ◌∙◌}
use Rattle.stm_journal_text.specs.declared.event.Event.TheVariants.{Read}
use Rattle.stm_journal.specs.Answered.{was_read}
use Rattle.stm_journal.proofs.Asked.{entered_last}
use Rattle.stm_journal.proofs.traced.TracedSharedCore.read_into.Goals as goal

pub invariant_of-self-then-enters_read : goal.invariant_of-self-then-enters_read
invariant_of-self-then-enters_read c =
    entered_last c.self.inside.core c.self.inside.entries.items c.reserve.new.self.items c.enter.new.entries.items c.args.seat (Read c.args.version c.args.row.now) (was_read c.read_into-answer.result c.read_into-answer.new.value) c.read_into-answer.new.core
    c.self.invariant c.read_into-answer.ensures.answer (sym (c.enters_read.ensures c.read_into-answer.new.value) ∙ c.if-enters_read.true) c.reserve.ensures.items c.enter.ensures
