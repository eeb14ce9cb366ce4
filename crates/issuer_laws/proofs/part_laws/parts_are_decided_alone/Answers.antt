use Rattle.issuer_laws.proofs.Parts.{decided_alone, leaves_others}
use Rattle.issuer_laws.proofs.part_laws.parts_are_decided_alone.Goals as goal

pub returns-clause-part : goal.returns-clause-part
returns-clause-part c = decided_alone

pub returns-clause-others : goal.returns-clause-others
returns-clause-others c = leaves_others
