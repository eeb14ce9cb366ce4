use Rattle.std.proofs.Common.{max, rules, arith}
use Rattle.split_state.proofs.StepLaws.{draws_validate}
use Rattle.split_state.proofs.cursors.Cursors.end_validation.Goals as goal

pub fetch_max-requires : goal.fetch_max-requires
fetch_max-requires c = (search rules, omega (arith, c.self.invariant.0), draws_validate _ _ _ _ c.args.messages (λ n. max n c.args.messages))
