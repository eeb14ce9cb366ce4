use Rattle.std.proofs.Common.{◌∷◌, [], ◌++◌, length, refl, ap, ◌∙◌, arith}
use Rattle.std.proofs.lemmas.List.{length-append}
use Rattle.std.proofs.lemmas.Result.{err_from_is_err_and}
use Rattle.log_replay.specs.Logged.{all_bodies}
use Rattle.log_replay.proofs.Reading.{not_measured}
use Rattle.log_replay.proofs.measuring.measure_log.Goals as goal
use Rattle.file_laws.proofs.Lists.{bodies_more}

pub returns-in_err-bodies-clause-fault : goal.returns-in_err-bodies-clause-fault
returns-in_err-bodies-clause-fault g c =
    let p = err_from_is_err_and c.from_residual-in_err-bodies.result c.from_residual-in_err-bodies.ensures.1 in
    let inv = c.loop.invariant in
    rw (p.1, p.2) (not_measured _ _ _ _ _ (λ failed. inv.1 (c.in_err-bodies.ensures.file.fault failed)) (λ of_bytes known.
    let so_far = inv.2 known in
    c.in_err-bodies.ensures.fault (inv.0 known) c.args.digest.now (g.R.Source.remaining c.args.source) so_far.0 so_far.2 of_bytes))

pub returns-then-messages-gt-MOST-clause-fault : goal.returns-then-messages-gt-MOST-clause-fault
returns-then-messages-gt-MOST-clause-fault g c = λ known.
    let inv = c.loop.invariant in
    let so_far = inv.2 known in
    let steps = rw c.in-End.is at (c.in_ok-bodies.ensures.read (inv.0 known) c.args.digest.now (g.R.Source.remaining c.args.source) so_far.0 so_far.2) in (
      c.loop.messages,
      length steps.0,
      record { entries = so_far.0; tail = steps.0; is = steps.1; bodies = so_far.1; left = refl },
      omega (arith, c.if-messages-gt-MOST.true),
    )

pub returns-in-End-clause-size : goal.returns-in-End-clause-size
returns-in-End-clause-size g c = λ known.
    let inv = c.loop.invariant in
    let so_far = inv.2 known in
    let steps = rw c.in-End.is at (c.in_ok-bodies.ensures.read (inv.0 known) c.args.digest.now (g.R.Source.remaining c.args.source) so_far.0 so_far.2) in
    record { entries = so_far.0; tail = steps.0; is = steps.1; bodies = so_far.1; left = c.tail.ensures ∙ steps.2.left }

pub loop-preserved : goal.loop-preserved
loop-preserved g c = (
  λ known. c.next.ensures.file.known (c.loop.invariant.0 known),
  λ may. c.loop.invariant.1 (c.next.ensures.file.may may),
  λ known.
      let inv = c.loop.invariant in
      let so_far = inv.2 known in
      let bodies = c.in-Entry.bodies in
      let steps = rw c.in-Entry.is at (c.in_ok-bodies.ensures.read (inv.0 known) c.args.digest.now (g.R.Source.remaining c.args.source) so_far.0 so_far.2) in (
        so_far.0 ++ bodies ∷ [],
        omega (arith, c.in-Some.ensures, c.from.ensures, c.len.ensures.count, so_far.1, ap length (bodies_more so_far.0 bodies), length-append (all_bodies so_far.0) bodies),
        steps,
      ),
)
