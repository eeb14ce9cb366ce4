use Rattle.std.proofs.Common.{◌≡◌, rules, IsTrue, ap, arith}
use Rattle.std.proofs.lemmas.Result.{err_from_is_err_and}
use Rattle.file_batch.specs.Window.{ahead}
use Rattle.file_blocks.proofs.Blocking.{goes_on, halts}
use Rattle.file_blocks.proofs.kept_blocks.KeptBlocks.decide_blocks.Goals as goal

pub returns-in_err-step-clause-err : goal.returns-in_err-step-clause-err
returns-in_err-step-clause-err g c =
    let p = err_from_is_err_and c.from_residual.result c.from_residual.ensures.1 in
    let before = c.loop.invariant in
    let sink = g.W.Sink.written in
    rw (p.1, p.2) (halts c.args.count c.args.self.now.book c.loop.self c.step.new.self (g.R.Source.is_known c.args.source.now) (g.R.Source.is_known c.loop.source)
    (ahead c.args.window.now (g.R.Source.remaining c.args.source.now)) (ahead c.loop.window (g.R.Source.remaining c.loop.source))
    (g.W.Sink.is_known c.args.sink.now) (g.W.Sink.is_known c.loop.sink) (sink c.args.sink.now) (sink c.loop.sink) (sink c.step.new.sink) c.in_err-step.field-0.0
    (IsTrue (g.W.Sink.has_failed c.step.new.sink) × g.W.Sink.may_fail c.args.sink.now) (IsTrue (g.W.Sink.has_failed c.step.new.sink) × g.W.Sink.may_fail c.loop.sink) (c.step.new.sink ≡ c.loop.sink)
    before.so_far c.in_err-step.ensures.kept (omega (arith, before.count, c.loop-test.true)) before.source.known before.sink.known (λ f. (f.0, before.sink.may f.1)) c.in_err-step.ensures.fault c.in_err-step.ensures.err
    (λ same. ap sink same))

pub loop-preserved : goal.loop-preserved
loop-preserved g c =
    let before = c.loop.invariant in
    record {
      source = search rules;
      sink = search rules;
      within = omega (arith, c.loop-test.true);
      count = omega (arith, c.in_ok-step.ensures.ok.number, before.count);
      most = (
        omega (arith, c.in_ok-step.ensures.within.0, before.most.0),
        omega (arith, c.in_ok-step.ensures.within.1, before.most.1),
      );
      so_far = goes_on c.args.self.now.book c.loop.self c.step.new.self (g.R.Source.is_known c.args.source.now) (g.R.Source.is_known c.loop.source)
          (ahead c.args.window.now (g.R.Source.remaining c.args.source.now)) (ahead c.loop.window (g.R.Source.remaining c.loop.source)) (ahead c.step.new.window (g.R.Source.remaining c.step.new.source))
          (g.W.Sink.is_known c.args.sink.now) (g.W.Sink.is_known c.loop.sink) (g.W.Sink.written c.args.sink.now) (g.W.Sink.written c.loop.sink) (g.W.Sink.written c.step.new.sink)
          before.so_far c.in_ok-step.ensures.ok before.source.known before.sink.known;
    }
