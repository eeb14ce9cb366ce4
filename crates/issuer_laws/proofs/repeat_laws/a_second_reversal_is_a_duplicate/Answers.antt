use Rattle.issuer_laws.proofs.Duplicate.{second_is_duplicate}
use Rattle.issuer_laws.proofs.repeat_laws.a_second_reversal_is_a_duplicate.Goals as goal

pub returns : goal.returns
returns c = second_is_duplicate
