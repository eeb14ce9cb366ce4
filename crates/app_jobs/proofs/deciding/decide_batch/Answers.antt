use Rattle.std.proofs.lemmas.Result.{err_from_is_err_and}
use Rattle.file_devices.specs.BatchNames.{names_of}
use Rattle.app_jobs.proofs.AnsweredFiles.{put, refused, unanswered, unput, unread}
use Rattle.app_jobs.proofs.deciding.decide_batch.Goals as goal

pub returns-in_err-book : goal.returns-in_err-book
returns-in_err-book g c =
    let p = err_from_is_err_and c.from_residual.result c.from_residual.ensures.1 in
    record { decides = rw (p.1, p.2) (unread _ _ _ _ _ (names_of c.args.names.now) _ c.in_err-book.ensures.fault) }

pub returns-in_err-answer : goal.returns-in_err-answer
returns-in_err-answer g c =
    let p = err_from_is_err_and c.from_residual-in_err-answer.result c.from_residual-in_err-answer.ensures.1 in
    record { decides = rw (p.1, p.2) (unanswered _ _ _ _ _ (names_of c.args.names.now) c.in_ok-book.book _ c.in_ok-book.ensures.held.opening c.in_err-answer.ensures.fault) }

pub returns-in_err-admit : goal.returns-in_err-admit
returns-in_err-admit g c =
    let p = err_from_is_err_and c.from_residual-in_err-admit.result c.from_residual-in_err-admit.ensures.1 in
    record { decides = rw (p.1, p.2) (refused _ _ _ _ _ _ _ (names_of c.args.names.now) c.in_ok-book.book _ _ _ _ c.in_ok-book.ensures.held.opening c.in_ok-answer.ensures.answered c.in_err-admit.ensures.refused) }

pub returns-in_err-put_answer : goal.returns-in_err-put_answer
returns-in_err-put_answer g c =
    let p = err_from_is_err_and c.from_residual-in_err-put_answer.result c.from_residual-in_err-put_answer.ensures.1 in
    record { decides = rw (p.1, p.2) (unput _ _ _ _ _ _ _ _ (names_of c.args.names.now) c.in_ok-book.book _ _ _ _ _ _ c.in_ok-book.ensures.held.opening c.in_ok-answer.ensures.answered c.in_err-put_answer.ensures.puts) }

pub returns : goal.returns
returns g c =
    let held = c.in_ok-book.ensures.held in
    record { decides = put _ _ _ _ _ _ _ _ (names_of c.args.names.now) c.in_ok-book.book _ _ _ held.book_there held.opening c.in_ok-answer.ensures.answered c.in_ok-put_answer.ensures.puts c.in_ok-admit.ensures.admitted }
