use Rattle.std.proofs.lemmas.Result.{IfErr-weaker, on_ok_weaker}
use Rattle.app_messages.proofs.PutFaults.{unput_is_unwritten}
use Rattle.app_messages.proofs.packing.put_batch.Goals as goal

pub returns-clause-put : goal.returns-clause-put
returns-clause-put g c = on_ok_weaker c.put_file.result (λ put known.
    let text = c.in_ok-output.ensures.written known in
    rw (← text.1) (put known text.0)) c.put_file.ensures.put

pub returns-clause-fault : goal.returns-clause-fault
returns-clause-fault g c = IfErr-weaker c.put_file.result _ _ (λ fault h. unput_is_unwritten _ _ fault h) c.put_file.ensures.fault
