use Rattle.stm_journal_text.specs.declared.event.Event.TheVariants.{Block}
use Rattle.stm_journal.proofs.Asked.{some_play_on}
use Rattle.stm_journal.proofs.untraced.UntracedSharedCore.block.Goals as goal

pub invariant_of-self : goal.invariant_of-self
invariant_of-self c = some_play_on c.self.inside.core c.args.seat (Block c.args.version c.args.on) c.block.result c.block.new.core c.self.invariant c.block.ensures
