use Rattle.std.proofs.Common.{◌+◌, ◌%◌, ◌^◌, rules, arith}
use Rattle.split_state.proofs.StepLaws.{draws_validate}
use Rattle.split_state.proofs.cursors.Cursors.draw_validate.Goals as goal

pub fetch_add-requires : goal.fetch_add-requires
fetch_add-requires c = (search rules, omega (arith, c.self.invariant.0), draws_validate _ _ _ _ 1 (λ n. (n + 1) % 2 ^ 64))
