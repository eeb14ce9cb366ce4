use Rattle.iso_laws.proofs.BitsFaults.{short_header}
use Rattle.iso_laws.proofs.TypeFaults.{unknown_type}
use Rattle.iso_laws.proofs.laws.names_an_unknown_type.Goals as goal

pub returns-clause-unknown : goal.returns-clause-unknown
returns-clause-unknown c = unknown_type

pub returns-clause-short : goal.returns-clause-short
returns-clause-short c = short_header
