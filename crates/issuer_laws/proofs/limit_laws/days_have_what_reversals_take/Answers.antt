use Rattle.issuer_laws.proofs.Covered.{stays_covered}
use Rattle.issuer_laws.proofs.limit_laws.days_have_what_reversals_take.Goals as goal

pub returns : goal.returns
returns c rows frames = stays_covered frames rows
