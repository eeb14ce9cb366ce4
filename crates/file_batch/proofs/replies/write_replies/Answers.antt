use Rattle.file_batch.proofs.Pieces.{nothing_put}
use Rattle.std.proofs.lemmas.Result.{err_from_is_err_and}
use Rattle.file_laws.specs.Files.{replies_text}
use Rattle.file_batch.proofs.replies.write_replies.Goals as goal

pub returns-then-replies-gt65536-clause-err : goal.returns-then-replies-gt65536-clause-err
returns-then-replies-gt65536-clause-err g c = λ known. nothing_put (g.W.Sink.written c.args.sink.now) (replies_text c.args.replies.now)

pub returns-in_err-out-clause-err : goal.returns-in_err-out-clause-err
returns-in_err-out-clause-err g c =
    let p = err_from_is_err_and c.from_residual.result c.from_residual.ensures.1 in
    rw p.1 (λ known. nothing_put (g.W.Sink.written c.args.sink.now) (replies_text c.args.replies.now))
