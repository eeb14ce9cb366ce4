use Rattle.std.proofs.Common.{◌+◌, arith}
use Rattle.file_listing.proofs.OneMore.{no_bodies, one_more}
use Rattle.file_listing.proofs.search_bodies.end_of_bodies.Goals as goal

pub loop-number-init : goal.loop-number-init
loop-number-init c = no_bodies c.args.kind c.args.file.now c.args.at c.requires

pub loop-number-preserved : goal.loop-number-preserved
loop-number-preserved c =
    one_more c.args.kind c.args.file.now c.args.at c.loop-number.number (c.loop-number.number + 1) c.loop-number.end c.in-Ok.next c.loop-number.invariant c.in-Ok.ensures.ok (omega arith)
