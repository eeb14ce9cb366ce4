use Rattle.app_laws.proofs.Audited.{blocks_say_same}
use Rattle.app_laws.proofs.audit_laws.an_audit_behind_blocks_says_same.Goals as goal

pub returns : goal.returns
returns c = blocks_say_same
