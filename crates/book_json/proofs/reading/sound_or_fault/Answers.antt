use Rattle.book_json.proofs.Answering.{first_fault_answers}
use Rattle.book_json.proofs.reading.sound_or_fault.Goals as goal

pub returns-in-Err : goal.returns-in-Err
returns-in-Err g c = first_fault_answers _ _ (rw c.in-Err.is at c.check_book_by.ensures.fault)
