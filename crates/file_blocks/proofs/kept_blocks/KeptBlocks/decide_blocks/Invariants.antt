use Rattle.std.proofs.Common.{◌≡◌, ◌≤◌, ◌*◌}
use Rattle.file_blocks.specs.Blocks.{AreDecided}
use Rattle.file_batch.specs.Device.{KeepsDevice}
use Rattle.file_batch.specs.Window.{ahead}
use Rattle.file_blocks.proofs.kept_blocks.KeptBlocks.decide_blocks.Given as goal

-- the blocks so far were decided and answered
abbrev pub invariant-loop : goal.invariant-loop
invariant-loop g l = record {
  source : KeepsDevice g.R.Source.is_known g.R.Source.has_failed g.R.Source.may_fail l.fn.source l.source;
  sink : KeepsDevice g.W.Sink.is_known g.W.Sink.has_failed g.W.Sink.may_fail l.fn.sink l.sink;
  within : l.counter ≤ l.count;
  count : l.self.blocks ≡ l.counter;
  most : (l.self.messages.bodies ≤ 65536 * l.counter) × (l.self.messages.unreadable ≤ 65536 * l.counter);
  so_far : AreDecided l.fn.self.book l.self.book l.self.blocks l.self.messages (g.R.Source.is_known l.fn.source)
      (ahead l.fn.window (g.R.Source.remaining l.fn.source)) (ahead l.window (g.R.Source.remaining l.source))
      (g.W.Sink.is_known l.fn.sink) (g.W.Sink.written l.fn.sink) (g.W.Sink.written l.sink);
}
