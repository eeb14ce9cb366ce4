use Rattle.issuer_laws.proofs.Approved.{approved_where_paid}
use Rattle.issuer_laws.proofs.DecidedBy.{body_decided}
use Rattle.issuer_laws.proofs.rule_laws.the_first_rule_decides.Goals as goal

pub returns-clause-decided : goal.returns-clause-decided
returns-clause-decided c = body_decided

pub returns-clause-approved : goal.returns-clause-approved
returns-clause-approved c = approved_where_paid
