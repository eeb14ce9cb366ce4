use Rattle.std.proofs.Common.{arith}
use Rattle.split_state.proofs.cursors.Cursors.close.Goals as goal

pub free-requires : goal.free-requires
free-requires c = λ k small. absurd (omega (arith, c.close_with-closed.ensures.counts, c.self.invariant.1))
