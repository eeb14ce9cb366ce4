use Rattle.std.proofs.Common.{refl, inl, arith}
use Rattle.stm_memory.proofs.Loops.{estimating_more, estimating_all, same_length, same_row}
use Rattle.stm_memory.proofs.RowLaws.{row_there}
use Rattle.stm_memory.proofs.mv_memory.estimate_all.Goals as goal

pub loop-place-init : goal.loop-place-init
loop-place-init c = record { rows = refl; others = λ r i ne. refl; either = λ r. inl refl; done = λ k n r l at is. absurd (omega arith) }

pub to_estimate-requires : goal.to_estimate-requires
to_estimate-requires c =
    let there = c.requires.rows c.loop-place.place c.at.result c.at.ensures in
    let same = same_length c.args.chains.now c.loop-place.chains c.loop-place.invariant.rows in
    omega arith

pub loop-place-preserved : goal.loop-place-preserved
loop-place-preserved c =
    let there = c.requires.rows c.loop-place.place c.at.result c.at.ensures in
    let row = row_there c.args.chains.now c.at.result there in
    estimating_more c.args.chains.now c.loop-place.chains c.to_estimate.new.self c.args.list.now.numbers c.args.index c.loop-place.place c.at.result row.0 c.loop-place.invariant c.at.ensures row.1 (c.to_estimate.ensures.changed row.0 (same_row c.args.chains.now c.loop-place.chains c.at.result row.0 c.loop-place.invariant.rows row.1)) c.to_estimate.ensures.rows

pub returns-clause-own : goal.returns-clause-own
returns-clause-own c =
    estimating_all c.args.chains.now c.loop-place.chains c.args.list.now.numbers c.args.index c.loop-place.place c.loop-place.invariant (let end = c.loop-place-test.false in let n = c.len-place-end.ensures in omega arith) c.requires
