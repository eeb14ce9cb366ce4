use Rattle.stm_journal_text.specs.declared.event.Event.TheVariants.{Claim}
use Rattle.stm_journal_text.specs.declared.core_answer.CoreAnswer.TheVariants.{Claimed}
use Rattle.stm_journal.proofs.Asked.{some_play_on}
use Rattle.stm_journal.proofs.untraced.UntracedSharedCore.claim.Goals as goal

pub invariant_of-self : goal.invariant_of-self
invariant_of-self c = some_play_on c.self.inside.core c.args.seat Claim (Claimed c.claim.result) c.claim.new.core c.self.invariant c.claim.ensures
