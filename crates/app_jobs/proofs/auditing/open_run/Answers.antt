use Rattle.std.proofs.lemmas.Result.{err_from_is_err_and}
use Rattle.file_devices.specs.BatchNames.{names_of}
use Rattle.app_jobs.proofs.Audits.{of_first_two, of_last_two}
use Rattle.app_jobs.proofs.auditing.open_run.Goals as goal

pub returns-in_err-book-clause-fault : goal.returns-in_err-book-clause-fault
returns-in_err-book-clause-fault g c =
    let p = err_from_is_err_and c.from_residual.result c.from_residual.ensures.1 in
    rw (p.1, p.2) (of_first_two (g.F.Files.holds c.args.files.now) (g.F.Files.failing c.args.files.now) (names_of c.args.names.now)
    _ c.in_err-book.field-0.0 c.in_err-book.ensures.fault)

pub returns-in_err-replies-clause-fault : goal.returns-in_err-replies-clause-fault
returns-in_err-replies-clause-fault g c =
    let p = err_from_is_err_and c.from_residual-in_err-replies.result c.from_residual-in_err-replies.ensures.1 in
    rw (p.1, p.2) (of_last_two (g.F.Files.is_known c.args.files.now) (g.F.Files.holds c.args.files.now) (g.F.Files.failing c.args.files.now) (names_of c.args.names.now)
    c.in_ok-book.book c.in_ok-book.frames.items _ c.in_err-replies.field-0.0 c.in_ok-book.ensures.held c.in_err-replies.ensures.fault)
