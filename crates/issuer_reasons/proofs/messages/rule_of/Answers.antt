use Rattle.issuer_laws.proofs.DecidedBy.{body_decided}
use Rattle.issuer_reasons.proofs.messages.rule_of.Goals as goal

pub returns-clause-decided : goal.returns-clause-decided
returns-clause-decided c = rw c.first_rule.ensures (body_decided c.args.book.now c.args.frame.now)
