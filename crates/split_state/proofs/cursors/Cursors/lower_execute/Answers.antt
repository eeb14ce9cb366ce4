use Rattle.std.proofs.Common.{min, rules, arith}
use Rattle.split_state.proofs.StepLaws.{draws_execute}
use Rattle.split_state.proofs.cursors.Cursors.lower_execute.Goals as goal

pub fetch_min-requires : goal.fetch_min-requires
fetch_min-requires c = (search rules, omega (arith, c.self.invariant.0), draws_execute _ _ _ _ c.args.index (λ n. min n c.args.index))
