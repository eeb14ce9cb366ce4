use Rattle.stm_memory.proofs.RowLaws.{row_within}
use Rattle.stm_memory.proofs.chains.Chains.counted_below.Goals as goal

pub counted_at-requires : goal.counted_at-requires
counted_at-requires c = row_within _ _ _ c.in-Some.ensures.found
