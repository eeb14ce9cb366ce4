use Rattle.host_commands.proofs.Answering.{by_end, by_fault}
use Rattle.host_commands.proofs.serving.serve.Goals as goal

pub returns-in-Ok-clause-served : goal.returns-in-Ok-clause-served
returns-in-Ok-clause-served g c text bytes held logged reads puts =
    by_end text bytes _ _ _ (rw c.in-Ok.is at (c.served.ensures.ok text bytes held logged reads puts))

pub returns-in-Err-Opening-clause-served : goal.returns-in-Err-Opening-clause-served
returns-in-Err-Opening-clause-served g c text bytes held logged reads puts =
    by_fault text bytes _ _ _ (rw c.in-Err-Opening.is at (c.served.ensures.err text bytes held logged reads puts))

pub returns-in-Err-Serving-clause-served : goal.returns-in-Err-Serving-clause-served
returns-in-Err-Serving-clause-served g c text bytes held logged reads puts =
    by_fault text bytes _ _ _ (rw c.in-Err-Serving.is at (c.served.ensures.err text bytes held logged reads puts))
