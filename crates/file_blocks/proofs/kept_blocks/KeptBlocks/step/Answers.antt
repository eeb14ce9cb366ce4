use Rattle.std.proofs.Common.{◌≡◌, IsTrue}
use Rattle.std.proofs.lemmas.Result.{on_err_weaker}
use Rattle.file_batch.specs.Window.{ahead}
use Rattle.file_blocks.proofs.Blocking.{begun}
use Rattle.file_blocks.proofs.kept_blocks.KeptBlocks.step.Goals as goal

pub returns-clause-err : goal.returns-clause-err
returns-clause-err g c = on_err_weaker c.answer.result (begun c.args.self.now.book (g.R.Source.is_known c.args.source.now)
    (ahead c.args.window.now (g.R.Source.remaining c.args.source.now)) (ahead c.read_block.new.window (g.R.Source.remaining c.read_block.new.source))
    (g.W.Sink.is_known c.args.sink.now) (g.W.Sink.written c.args.sink.now) (g.W.Sink.written c.answer.new.sink)
    (IsTrue (g.W.Sink.has_failed c.answer.new.sink) × g.W.Sink.may_fail c.args.sink.now) (c.answer.new.sink ≡ c.args.sink.now)
    c.deref.result.now (rw c.deref.ensures.value c.in_ok-frames.ensures.gives)) c.answer.ensures.err
