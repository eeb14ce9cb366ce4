use Rattle.std.proofs.Common.{inr}
use Rattle.std.proofs.lemmas.Result.{err_from_is_err_and}
use Rattle.app_jobs.proofs.opening.open_inputs.Goals as goal

pub returns-in_err-frames-in-Ok-clause-fault : goal.returns-in_err-frames-in-Ok-clause-fault
returns-in_err-frames-in-Ok-clause-fault g c =
    let p = err_from_is_err_and c.from_residual-in_err-frames-in-Ok.result c.from_residual-in_err-frames-in-Ok.ensures.1 in
    let batch = rw c.in_err-frames-in-Ok.was at c.join-book.ensures.second.1.1.0 in
    rw (p.1, p.2) (inr (
      (c.in-Ok.book, λ bytes h. rw (c.as_slice-bytes.ensures.value, c.in_ok-text.ensures.read bytes (rw c.as_str.ensures.value h), c.in-Ok.is) at c.join-book.ensures.first),
      rw c.as_str-batch.ensures.value at batch,
    ))
