use Rattle.file_laws.proofs.ReadBack.{replies_again, replies_alone}
use Rattle.file_laws.proofs.laws.replies_are_read_back.Goals as goal

pub returns-clause-again : goal.returns-clause-again
returns-clause-again c = replies_again

pub returns-clause-alone : goal.returns-clause-alone
returns-clause-alone c = replies_alone
