use Rattle.std.specs.Prelude.{Ok}
use Rattle.log_file.specs.Ahead.{ahead}
use Rattle.log_file.specs.Device.{UsesFile}
use Rattle.log_file.proofs.Ahead.{ZerosRead}
use Rattle.log_file.proofs.part_reading.read_zeros.Given as goal

abbrev pub invariant-loop : goal.invariant-loop
invariant-loop g l = record {
  device : UsesFile g.R.Source.is_known g.R.Source.has_failed g.R.Source.may_fail {X = Unit {0}} l.fn.input.source l.input.source (Ok tt);
  zeros : g.R.Source.is_known l.fn.input.source → ZerosRead l.count (ahead g.R.Source.remaining l.fn.input) (ahead g.R.Source.remaining l.input);
}
