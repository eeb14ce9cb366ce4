use Rattle.issuer_laws.proofs.Permanent.{stays_kept, same_original}
use Rattle.issuer_laws.proofs.repeat_laws.an_original_is_kept_for_good.Goals as goal

pub returns-clause-stays : goal.returns-clause-stays
returns-clause-stays c rows identity k frames = stays_kept frames rows identity k

pub returns-clause-same : goal.returns-clause-same
returns-clause-same c = same_original
