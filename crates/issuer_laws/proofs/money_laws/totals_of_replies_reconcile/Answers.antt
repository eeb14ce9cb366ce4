use Rattle.issuer_laws.proofs.Reconciled.{reconciled}
use Rattle.issuer_laws.proofs.money_laws.totals_of_replies_reconcile.Goals as goal

pub returns : goal.returns
returns c rows frames id = reconciled frames rows id
