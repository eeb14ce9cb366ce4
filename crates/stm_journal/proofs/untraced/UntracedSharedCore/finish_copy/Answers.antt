use Rattle.stm_journal_text.specs.declared.event.Event.TheVariants.{Finish}
use Rattle.stm_journal.proofs.Asked.{some_play_on}
use Rattle.stm_journal.proofs.untraced.UntracedSharedCore.finish_copy.Goals as goal

pub invariant_of-self : goal.invariant_of-self
invariant_of-self c = some_play_on c.self.inside.core c.args.seat (Finish c.args.version) c.hand_in.result c.hand_in.new.core c.self.invariant c.hand_in.ensures.answer
