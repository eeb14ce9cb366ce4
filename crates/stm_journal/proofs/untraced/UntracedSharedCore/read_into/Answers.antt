use Rattle.stm_journal_text.specs.declared.event.Event.TheVariants.{Read}
use Rattle.stm_journal.specs.Answered.{was_read}
use Rattle.stm_journal.proofs.Asked.{some_play_on}
use Rattle.stm_journal.proofs.untraced.UntracedSharedCore.read_into.Goals as goal

pub invariant_of-self : goal.invariant_of-self
invariant_of-self c = some_play_on c.self.inside.core c.args.seat (Read c.args.version c.args.row.now) (was_read c.read_into.result c.read_into.new.value) c.read_into.new.core c.self.invariant c.read_into.ensures.answer
