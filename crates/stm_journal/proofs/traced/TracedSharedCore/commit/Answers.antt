use Rattle.std.proofs.Common.{refl}
use Rattle.stm_journal_text.specs.declared.event.Event.TheVariants.{Commit}
use Rattle.stm_journal_text.specs.declared.core_answer.CoreAnswer.TheVariants.{Committed}
use Rattle.stm_journal.proofs.Asked.{entered_last}
use Rattle.stm_journal.proofs.traced.TracedSharedCore.commit.Goals as goal

pub invariant_of-self-2 : goal.invariant_of-self-2
invariant_of-self-2 c =
    entered_last c.self.inside.core c.self.inside.entries.items c.reserve.new.self.items c.enter.new.entries.items c.args.seat Commit (Committed c.commit-is_committed.result) c.commit-is_committed.new.core
    c.self.invariant c.commit-is_committed.ensures refl c.reserve.ensures.items c.enter.ensures
