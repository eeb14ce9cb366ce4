use Rattle.std.proofs.Common.{sym, ◌∙◌}
use Rattle.stm_journal_text.specs.declared.event.Event.TheVariants.{Claim}
use Rattle.stm_journal_text.specs.declared.core_answer.CoreAnswer.TheVariants.{Claimed}
use Rattle.stm_journal.proofs.Asked.{entered_last}
use Rattle.stm_journal.proofs.traced.TracedSharedCore.claim.Goals as goal

pub invariant_of-self-then-enters_claim : goal.invariant_of-self-then-enters_claim
invariant_of-self-then-enters_claim c =
    entered_last c.self.inside.core c.self.inside.entries.items c.reserve.new.self.items c.enter.new.entries.items c.args.seat Claim (Claimed c.claim-task.result) c.claim-task.new.core
    c.self.invariant c.claim-task.ensures (sym c.enters_claim.ensures ∙ c.if-enters_claim.true) c.reserve.ensures.items c.enter.ensures
