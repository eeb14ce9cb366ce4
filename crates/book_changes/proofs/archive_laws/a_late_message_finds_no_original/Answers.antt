use Rattle.book_changes.proofs.Late.{late_reversal, late_request, late_advice}
use Rattle.book_changes.proofs.archive_laws.a_late_message_finds_no_original.Goals as goal

pub returns-clause-reversal : goal.returns-clause-reversal
returns-clause-reversal c = late_reversal

pub returns-clause-request : goal.returns-clause-request
returns-clause-request c = late_request

pub returns-clause-advice : goal.returns-clause-advice
returns-clause-advice c = late_advice
