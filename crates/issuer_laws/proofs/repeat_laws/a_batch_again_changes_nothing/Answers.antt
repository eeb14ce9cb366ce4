use Rattle.issuer_laws.proofs.Again.{requests_write_nothing_again, reversals_write_nothing_again}
use Rattle.issuer_laws.proofs.repeat_laws.a_batch_again_changes_nothing.Goals as goal

pub returns-clause-requests : goal.returns-clause-requests
returns-clause-requests c = requests_write_nothing_again

pub returns-clause-reversals : goal.returns-clause-reversals
returns-clause-reversals c = reversals_write_nothing_again
