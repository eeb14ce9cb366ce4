use Rattle.std.proofs.Common.{◌≡◌, ◌-◌, ◌≤◌, ◌++◌, length}
use Rattle.file_batch.specs.Window.{ahead}
use Rattle.file_batch.specs.Device.{KeepsDevice}
use Rattle.file_batch.proofs.window.Window.read_field.Given as goal

-- the field so far, and what is ahead, are what was ahead
abbrev pub invariant-loop-self : goal.invariant-loop-self
invariant-loop-self g l = record {
  within : length l.self.field.items ≤ l.size;
  device : KeepsDevice g.R.Source.is_known g.R.Source.has_failed g.R.Source.may_fail l.fn.source l.source;
  bytes : g.R.Source.is_known l.fn.source → ahead l.fn.self (g.R.Source.remaining l.fn.source)
      ≡ l.self.field.items ++ ahead l.self (g.R.Source.remaining l.source);
}

abbrev pub decreases-loop-self : goal.decreases-loop-self
decreases-loop-self g l = l.size - length l.self.field.items
