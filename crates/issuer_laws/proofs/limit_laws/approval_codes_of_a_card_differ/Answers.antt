use Rattle.issuer_laws.proofs.Cards.{codes_differ}
use Rattle.issuer_laws.proofs.limit_laws.approval_codes_of_a_card_differ.Goals as goal

pub returns : goal.returns
returns c rows first second between = codes_differ rows first between second
