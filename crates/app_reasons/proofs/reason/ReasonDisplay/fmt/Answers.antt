use Rattle.app_reasons.proofs.reason.ReasonDisplay.fmt.Goals as goal

pub returns-in-Behind-clause-writes : goal.returns-in-Behind-clause-writes
returns-in-Behind-clause-writes g c = rw c.in-Behind.is c.write.ensures.writes
