use Rattle.std.proofs.Common.{◌≡◌, ◌≤◌, length, vec_capacity}
use Rattle.file_laws.specs.Frames.{IsFrameOf}
use Rattle.file_batch.specs.Window.{ahead}
use Rattle.file_batch.proofs.ReadBodies.{ItemsAt}
use Rattle.file_batch.specs.Device.{KeepsDevice}
use Rattle.file_batch.proofs.window.Window.read_into.Given as goal

abbrev pub invariant-loop : goal.invariant-loop
invariant-loop g l = record {
  device : KeepsDevice g.R.Source.is_known g.R.Source.has_failed g.R.Source.may_fail l.fn.source l.source;
  count : length l.frames.items ≡ l.counter;
  within : l.counter ≤ l.count;
  room : l.count ≤ vec_capacity l.frames;
  frames : g.R.Source.is_known l.fn.source → ItemsAt IsFrameOf l.counter (ahead l.fn.self (g.R.Source.remaining l.fn.source))
      l.frames.items (ahead l.self (g.R.Source.remaining l.source));
}
