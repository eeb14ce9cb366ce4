use Rattle.stm_memory.proofs.RowLaws.{row_within}
use Rattle.split_state.proofs.shards.estimate_in.Goals as goal

pub to_estimate-requires : goal.to_estimate-requires
to_estimate-requires c = row_within _ _ _ c.in-Some.ensures.found
