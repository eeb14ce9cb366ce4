use Rattle.std.proofs.lemmas.Result.{err_from_is_err_and}
use Rattle.file_listing.proofs.search_bodies.body_end.Goals as goal

pub returns-in_err-body-clause-err : goal.returns-in_err-body-clause-err
returns-in_err-body-clause-err c =
    let p = err_from_is_err_and c.from_residual.result c.from_residual.ensures.1 in
    rw (p.1, p.2) (c.in_err-body.ensures.err c.args.kind)
