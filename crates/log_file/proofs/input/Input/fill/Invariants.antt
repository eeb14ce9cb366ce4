use Rattle.std.proofs.Common.{◌≡◌, ◌-◌, length}
use Rattle.std.specs.Prelude.{Ok}
use Rattle.log_file.specs.Ahead.{ahead, held}
use Rattle.log_file.specs.Device.{UsesFile}
use Rattle.log_file.proofs.input.Input.fill.Given as goal

abbrev pub invariant-loop-self : goal.invariant-loop-self
invariant-loop-self g l = record {
  device : UsesFile g.R.Source.is_known g.R.Source.has_failed g.R.Source.may_fail {X = Unit {0}} l.fn.self.source l.self.source (Ok tt);
  bytes : g.R.Source.is_known l.fn.self.source → ahead g.R.Source.remaining l.self ≡ ahead g.R.Source.remaining l.fn.self;
}

abbrev pub decreases-loop-self : goal.decreases-loop-self
decreases-loop-self g l = l.wanted - length (held l.self)
