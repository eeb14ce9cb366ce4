use Rattle.stm_memory.proofs.ChainLaws.{fits_apart, fits_last}
use Rattle.stm_memory.proofs.chain.place_of.Goals as goal
use Rattle.stm_memory.proofs.chain.place_of.Goals.{else-place-links-via-then-place-links+else-links-place, else-place-links-via-else-place-links}

pub returns-else-place-links-clause-absent : goal.returns-else-place-links-clause-absent
returns-else-place-links-clause-absent c =
    let e = c.place_below-place.ensures in
    elim c.else-place-links.branch [
      | else-place-links-via-then-place-links+else-links-place w ↦ fits_apart c.args.links.now c.args.index c.place_below-place.result w.index-links-place.result c.requires w.if-place-links.true e.below e.above w.if-links-place.false
      | else-place-links-via-else-place-links w ↦ fits_last c.args.links.now c.args.index c.place_below-place.result e.within w.if-place-links.false e.below
    ]
