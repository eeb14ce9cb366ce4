use Rattle.issuer_laws.proofs.Conserved.{accounts_kept, prefixes_kept, accounts_kept_by_batch, prefixes_kept_by_batch}
use Rattle.issuer_laws.proofs.money_laws.every_decision_keeps_backing.Goals as goal

pub returns-clause-account : goal.returns-clause-account
returns-clause-account c = accounts_kept

pub returns-clause-prefix : goal.returns-clause-prefix
returns-clause-prefix c = prefixes_kept

pub returns-clause-account_of_batch : goal.returns-clause-account_of_batch
returns-clause-account_of_batch c = accounts_kept_by_batch

pub returns-clause-prefix_of_batch : goal.returns-clause-prefix_of_batch
returns-clause-prefix_of_batch c = prefixes_kept_by_batch
