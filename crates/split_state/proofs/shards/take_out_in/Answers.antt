use Rattle.stm_memory.proofs.RowLaws.{row_within}
use Rattle.split_state.proofs.shards.take_out_in.Goals as goal

pub take_out-requires : goal.take_out-requires
take_out-requires c = row_within _ _ _ c.in-Some.ensures.found
