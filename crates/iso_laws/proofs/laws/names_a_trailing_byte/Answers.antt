use Rattle.iso_laws.proofs.EndFaults.{trailing_byte, behind_message, behind_reply}
use Rattle.iso_laws.proofs.laws.names_a_trailing_byte.Goals as goal

pub returns-clause-whole : goal.returns-clause-whole
returns-clause-whole c = trailing_byte

pub returns-clause-message : goal.returns-clause-message
returns-clause-message c = behind_message

pub returns-clause-reply : goal.returns-clause-reply
returns-clause-reply c = behind_reply
