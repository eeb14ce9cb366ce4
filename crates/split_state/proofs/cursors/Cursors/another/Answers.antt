use Rattle.std.proofs.Common.{rules, arith}
use Rattle.split_state.proofs.StepLaws.{splits}
use Rattle.split_state.proofs.cursors.Cursors.another.Goals as goal

pub split_seat-requires : goal.split_seat-requires
split_seat-requires c = (search rules, omega (arith, c.self.invariant.0), splits _ _ _)
