use Rattle.issuer_laws.proofs.Repeated.{request_repeated, advice_repeated}
use Rattle.issuer_laws.proofs.repeat_laws.a_repeat_is_answered_alike.Goals as goal

pub returns-clause-request : goal.returns-clause-request
returns-clause-request c = request_repeated

pub returns-clause-advice : goal.returns-clause-advice
returns-clause-advice c = advice_repeated
