use Rattle.std.proofs.Common.{inr}
use Rattle.std.proofs.lemmas.Result.{err_from_is_err_and}
use Rattle.host_commands.proofs.Answering.{answered_all, answered_part}
use Rattle.host_commands.proofs.serving.served.Goals as goal

pub returns-in_err-serve_ahead-clause-err : goal.returns-in_err-serve_ahead-clause-err
returns-in_err-serve_ahead-clause-err g c text bytes held logged reads puts =
    let p = err_from_is_err_and c.from_residual-in_err-serve_ahead.result c.from_residual-in_err-serve_ahead.ensures.1 in
    rw p.1 (inr (answered_part _ _ _ c.in_err-serve_ahead.field-0.0 text bytes c.in_ok-opened.opened.host _ _ _ _ _ _
    (c.in_ok-opened.ensures.opened text bytes held logged) c.in_err-serve_ahead.ensures.stopped reads puts))

pub returns-clause-ok : goal.returns-clause-ok
returns-clause-ok g c text bytes held logged reads puts =
    answered_all _ _ _ text bytes c.in_ok-opened.opened.host _ _ _ _ _ _
    (c.in_ok-opened.ensures.opened text bytes held logged) c.in_ok-serve_ahead.ensures.ok reads puts
