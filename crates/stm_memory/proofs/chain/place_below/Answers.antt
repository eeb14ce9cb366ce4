use Rattle.std.proofs.Common.{◌-◌, length, arith}
use Rattle.stm_memory.proofs.ChainLaws.{nearer_below}
use Rattle.stm_memory.proofs.chain.place_below.Goals as goal

pub returns-then-links-count-clause-below : goal.returns-then-links-count-clause-below
returns-then-links-count-clause-below c k d within =
    let some = c.if-count-gt0.true in
    nearer_below c.args.links.now (length c.args.links.now - 1) c.args.index c.index-links-count.result c.requires (omega arith) c.if-links-count.true k d (omega arith)
