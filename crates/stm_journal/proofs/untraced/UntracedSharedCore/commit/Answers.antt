use Rattle.stm_journal_text.specs.declared.event.Event.TheVariants.{Commit}
use Rattle.stm_journal_text.specs.declared.core_answer.CoreAnswer.TheVariants.{Committed}
use Rattle.stm_journal.proofs.Asked.{some_play_on}
use Rattle.stm_journal.proofs.untraced.UntracedSharedCore.commit.Goals as goal

pub invariant_of-self : goal.invariant_of-self
invariant_of-self c = some_play_on c.self.inside.core c.args.seat Commit (Committed c.commit.result) c.commit.new.core c.self.invariant c.commit.ensures
