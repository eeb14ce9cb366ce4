use Rattle.book_changes.proofs.Reversing.{is_done}
use Rattle.book_changes.proofs.run_laws.a_right_reversal_is_done.Goals as goal

pub returns : goal.returns
returns c = is_done
