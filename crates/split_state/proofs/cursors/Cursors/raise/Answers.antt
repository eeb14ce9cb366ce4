use Rattle.std.proofs.Common.{rules, arith}
use Rattle.split_state.proofs.StepLaws.{raises}
use Rattle.split_state.proofs.cursors.Cursors.raise.Goals as goal

pub fetch_max-requires : goal.fetch_max-requires
fetch_max-requires c = (search rules, omega (arith, c.self.invariant.0), raises _ _ _ _ c.args.count c.requires.publishes c.requires.within)
