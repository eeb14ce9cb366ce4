use Rattle.issuer_laws.specs.Messages.{request_frame, advice_frame}
use Rattle.issuer_laws.specs.Repeated.{repeat_of_request, repeat_of_advice}
use Rattle.issuer_rows.specs.Fold.{rows_after}
use Rattle.host_serving.specs.Entering.{book_of}
use Rattle.host_commands.proofs.Repeats.{safe}
use Rattle.host_commands.proofs.laws.a_repeat_after_any_restart_is_safe.Goals as goal

pub returns-clause-request : goal.returns-clause-request
returns-clause-request g c = λ opening digest entries before behind r stands first.
    safe opening (book_of c.args.host.now) before behind (request_frame r) (request_frame (repeat_of_request r)) stands.book
    (c.a_repeat_is_answered_alike.ensures.request (rows_after opening before) r behind first)

pub returns-clause-advice : goal.returns-clause-advice
returns-clause-advice g c = λ opening digest entries before behind a stands first.
    safe opening (book_of c.args.host.now) before behind (advice_frame a) (advice_frame (repeat_of_advice a)) stands.book
    (c.a_repeat_is_answered_alike.ensures.advice (rows_after opening before) a behind first)
