use Rattle.issuer_laws.proofs.Cards.{stays_card}
use Rattle.issuer_laws.proofs.limit_laws.a_card_stays.Goals as goal

pub returns : goal.returns
returns c rows pan card frames = stays_card frames rows pan card
