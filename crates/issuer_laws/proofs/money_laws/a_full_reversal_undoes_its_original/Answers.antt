use Rattle.issuer_laws.proofs.Undone.{request_undone, request_reversed, advice_undone, advice_reversed}
use Rattle.issuer_laws.proofs.money_laws.a_full_reversal_undoes_its_original.Goals as goal

pub returns-clause-request : goal.returns-clause-request
returns-clause-request c = request_undone

pub returns-clause-request_reversed : goal.returns-clause-request_reversed
returns-clause-request_reversed c = request_reversed

pub returns-clause-advice : goal.returns-clause-advice
returns-clause-advice c = advice_undone

pub returns-clause-advice_reversed : goal.returns-clause-advice_reversed
returns-clause-advice_reversed c = advice_reversed
