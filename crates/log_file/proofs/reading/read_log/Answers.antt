use Rattle.std.proofs.Common.{[], subst}
use Rattle.std.proofs.lemmas.Result.{err_from_is_err_and}
use Rattle.log_file.specs.Reads.{Steps}
use Rattle.log_file.proofs.reading.read_log.Goals as goal

pub returns-in_err-bodies-clause-fault : goal.returns-in_err-bodies-clause-fault
returns-in_err-bodies-clause-fault g c = λ known.
    let p = err_from_is_err_and c.from_residual-in_err-bodies.result c.from_residual-in_err-bodies.ensures.1 in
    let inv = c.loop.invariant in
    rw (p.1, p.2) (c.in_err-bodies.ensures.fault (inv.known known) c.args.book.now (g.R.Source.remaining c.args.source) c.loop.entries.items (inv.read known))

pub returns-in_err-bodies-clause-may : goal.returns-in_err-bodies-clause-may
returns-in_err-bodies-clause-may g c =
    let p = err_from_is_err_and c.from_residual-in_err-bodies.result c.from_residual-in_err-bodies.ensures.1 in
    rw (p.1, p.2) (λ failed. c.loop.invariant.may (c.in_err-bodies.ensures.file.fault failed))

pub returns-in-End-clause-read : goal.returns-in-End-clause-read
returns-in-End-clause-read g c = λ known.
    let inv = c.loop.invariant in
    let rem = g.R.Source.remaining in
    subst (λ step. Steps rem c.args.book.now (rem c.args.source) c.loop.entries.items step c.next.new.self) c.in-End.is
    (c.in_ok-bodies.ensures.read (inv.known known) c.args.book.now (rem c.args.source) c.loop.entries.items (inv.read known))

pub loop-preserved : goal.loop-preserved
loop-preserved g c =
    let inv = c.loop.invariant in
    let rem = g.R.Source.remaining in
    record {
      known = λ known. c.in_ok-bodies.ensures.file.known (inv.known known);
      may = λ may. inv.may (c.in_ok-bodies.ensures.file.may may);
      read = λ known.
          rw c.in_ok-push-in-Entry.ensures.items (
          subst (λ step. Steps rem c.args.book.now (rem c.args.source) c.loop.entries.items step c.next.new.self) c.in-Entry.is
          (c.in_ok-bodies.ensures.read (inv.known known) c.args.book.now (rem c.args.source) c.loop.entries.items (inv.read known)));
    }
