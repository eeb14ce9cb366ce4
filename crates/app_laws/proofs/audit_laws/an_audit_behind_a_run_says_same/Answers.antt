use Rattle.app_laws.proofs.Audited.{says_same}
use Rattle.app_laws.proofs.audit_laws.an_audit_behind_a_run_says_same.Goals as goal

pub returns : goal.returns
returns c = says_same
