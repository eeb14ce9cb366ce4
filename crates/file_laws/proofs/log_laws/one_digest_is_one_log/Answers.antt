use Rattle.file_laws.proofs.Chain.{one_chain}
use Rattle.file_laws.proofs.log_laws.one_digest_is_one_log.Goals as goal

pub returns : goal.returns
returns c = one_chain
