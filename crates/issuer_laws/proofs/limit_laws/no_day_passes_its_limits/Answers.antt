use Rattle.issuer_laws.proofs.Cards.{leaves_day_within, stays_within}
use Rattle.issuer_laws.proofs.limit_laws.no_day_passes_its_limits.Goals as goal

pub returns-clause-batch : goal.returns-clause-batch
returns-clause-batch c rows frames = stays_within frames rows

pub returns-clause-approval : goal.returns-clause-approval
returns-clause-approval c = leaves_day_within
