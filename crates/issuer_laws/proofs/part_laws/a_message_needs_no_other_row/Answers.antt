use Rattle.issuer_laws.proofs.Parts.{needs_no_other}
use Rattle.issuer_laws.proofs.part_laws.a_message_needs_no_other_row.Goals as goal

pub returns : goal.returns
returns c = needs_no_other
