use Rattle.std.proofs.Common.{rules, arith}
use Rattle.split_state.proofs.StepLaws.{sees}
use Rattle.split_state.proofs.cursors.Cursors.done.Goals as goal

pub load-requires : goal.load-requires
load-requires c = (search rules, omega (arith, c.self.invariant.0), sees _ _ _ _)
