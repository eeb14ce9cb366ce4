use Rattle.std.proofs.lemmas.Result.{err_from_is_err_and}
use Rattle.book_laws.proofs.Readings.{answers_fault}
use Rattle.book_json.proofs.reading.read_any.Goals as goal

pub returns-in_err-book : goal.returns-in_err-book
returns-in_err-book g c =
    let p = err_from_is_err_and c.from_residual.result c.from_residual.ensures.1 in
    rw (p.1, p.2) (answers_fault _ _ c.in_err-book.ensures)
