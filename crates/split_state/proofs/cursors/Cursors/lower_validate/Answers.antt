use Rattle.std.proofs.Common.{min, rules, arith}
use Rattle.split_state.proofs.StepLaws.{draws_validate}
use Rattle.split_state.proofs.cursors.Cursors.lower_validate.Goals as goal

pub fetch_min-requires : goal.fetch_min-requires
fetch_min-requires c = (search rules, omega (arith, c.self.invariant.0), draws_validate _ _ _ _ c.args.index (λ n. min n c.args.index))
