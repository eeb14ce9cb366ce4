use Rattle.stm_memory.proofs.RowLaws.{row_within}
use Rattle.stm_memory.proofs.chains.Chains.nearest_below.Goals as goal

pub nearest_at-requires : goal.nearest_at-requires
nearest_at-requires c = row_within _ _ _ c.in-Some.ensures.found
