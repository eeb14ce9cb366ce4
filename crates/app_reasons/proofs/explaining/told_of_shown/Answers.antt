use Rattle.std.proofs.Common.{inr}
use Rattle.app_reasons.proofs.explaining.told_of_shown.Goals as goal

pub returns-in-Some : goal.returns-in-Some
returns-in-Some g c = inr (inr (c.in_ok-kind.kind, c.in_ok-kind.ensures, c.in-Some.ensures))
