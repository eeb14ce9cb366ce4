use Rattle.iso_laws.proofs.NamedElements.{least_unexpected}
use Rattle.iso_laws.proofs.laws.names_the_least_unexpected.Goals as goal

pub returns : goal.returns
returns c = least_unexpected
