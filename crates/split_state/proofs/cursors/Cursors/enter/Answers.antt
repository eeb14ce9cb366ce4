use Rattle.std.proofs.Common.{arith}
use Rattle.split_state.proofs.StepLaws.{enters}
use Rattle.split_state.proofs.cursors.Cursors.enter.Goals as goal

pub load_new_seat-requires : goal.load_new_seat-requires
load_new_seat-requires c = (omega (arith, c.self.invariant.0), enters _ _)
