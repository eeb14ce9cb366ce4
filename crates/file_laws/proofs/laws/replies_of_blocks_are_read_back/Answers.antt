use Rattle.file_laws.proofs.ReadBackBlocks.{blocks_again, blocks_alone}
use Rattle.file_laws.proofs.laws.replies_of_blocks_are_read_back.Goals as goal

pub returns-clause-again : goal.returns-clause-again
returns-clause-again c = blocks_again

pub returns-clause-alone : goal.returns-clause-alone
returns-clause-alone c = blocks_alone
