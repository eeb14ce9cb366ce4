use Rattle.book_changes.proofs.Refused.{refuses_none, again_nothing}
use Rattle.book_changes.proofs.run_laws.a_batch_of_such_a_book_again_changes_nothing.Goals as goal

pub returns-clause-refused : goal.returns-clause-refused
returns-clause-refused c = refuses_none

pub returns-clause-again : goal.returns-clause-again
returns-clause-again c = again_nothing
