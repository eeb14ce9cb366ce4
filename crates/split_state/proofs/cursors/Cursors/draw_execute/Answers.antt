use Rattle.std.proofs.Common.{◌+◌, ◌%◌, ◌^◌, rules, arith}
use Rattle.split_state.proofs.StepLaws.{draws_execute}
use Rattle.split_state.proofs.cursors.Cursors.draw_execute.Goals as goal

pub fetch_add-requires : goal.fetch_add-requires
fetch_add-requires c = (search rules, omega (arith, c.self.invariant.0), draws_execute _ _ _ _ 1 (λ n. (n + 1) % 2 ^ 64))
