use Rattle.iso_laws.proofs.NamedElements.{least_missing}
use Rattle.iso_laws.proofs.laws.names_the_least_missing.Goals as goal

pub returns : goal.returns
returns c = least_missing
