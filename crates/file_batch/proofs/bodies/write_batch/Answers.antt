use Rattle.file_batch.proofs.Pieces.{nothing_put}
use Rattle.file_batch.specs.Bodies.{bytes_of}
use Rattle.file_laws.specs.Files.{batch_text}
use Rattle.std.proofs.Common.{arith, refl}
use Rattle.std.proofs.lemmas.List.{length-map}
use Rattle.std.proofs.lemmas.Result.{err_from_is_err_and, on_ok_weaker}
use Rattle.file_laws.proofs.FaultTexts.{clash}
use Rattle.file_batch.proofs.Lengths.{are_bodies, are_vecs, all_are_bodies, text_of_vecs}
use Rattle.file_batch.proofs.bodies.write_batch.Goals as goal

pub returns-then-bodies-gt65536-clause-fit : goal.returns-then-bodies-gt65536-clause-fit
returns-then-bodies-gt65536-clause-fit g c = λ fit. absurd (omega (arith, c.if-bodies-gt65536.true, rw length-map at fit.0))

pub returns-then-not-are_bodies-clause-fit : goal.returns-then-not-are_bodies-clause-fit
returns-then-not-are_bodies-clause-fit g c = λ fit. absurd (clash c.are_bodies.result (c.are_bodies.ensures.1 (are_vecs c.args.bodies.now fit.1)) c.if-not-are_bodies.true)

pub returns-in_err-out-clause-length : goal.returns-in_err-out-clause-length
returns-in_err-out-clause-length g c = λ few none. absurd (none (are_bodies c.args.bodies.now (c.if-not-are_bodies.ensures.0 refl)))

pub returns-clause-length : goal.returns-clause-length
returns-clause-length g c = λ few none. absurd (none (are_bodies c.args.bodies.now (c.if-not-are_bodies.ensures.0 refl)))

pub returns-clause-bodies : goal.returns-clause-bodies
returns-clause-bodies g c =
    on_ok_weaker c.put_items.result (λ _. all_are_bodies c.args.bodies.now (omega (arith, c.if-bodies-gt65536.false)) (c.if-not-are_bodies.ensures.0 refl)) c.put_items.ensures.ok

pub returns-then-bodies-gt65536-clause-err : goal.returns-then-bodies-gt65536-clause-err
returns-then-bodies-gt65536-clause-err g c = λ known. nothing_put (g.W.Sink.written c.args.sink.now) (batch_text (bytes_of c.args.bodies.now))

pub returns-then-not-are_bodies-clause-err : goal.returns-then-not-are_bodies-clause-err
returns-then-not-are_bodies-clause-err g c = λ known. nothing_put (g.W.Sink.written c.args.sink.now) (batch_text (bytes_of c.args.bodies.now))

pub returns-in_err-out-clause-err : goal.returns-in_err-out-clause-err
returns-in_err-out-clause-err g c =
    let p = err_from_is_err_and c.from_residual.result c.from_residual.ensures.1 in
    rw p.1 (λ known. nothing_put (g.W.Sink.written c.args.sink.now) (batch_text (bytes_of c.args.bodies.now)))

pub returns-clause-ok : goal.returns-clause-ok
returns-clause-ok g c = rw (text_of_vecs c.args.bodies.now) c.put_items.ensures.ok

pub returns-clause-err : goal.returns-clause-err
returns-clause-err g c = rw (text_of_vecs c.args.bodies.now) c.put_items.ensures.err
