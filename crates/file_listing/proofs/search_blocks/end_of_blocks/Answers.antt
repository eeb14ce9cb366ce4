use Rattle.std.proofs.Common.{◌+◌, [], refl, arith}
use Rattle.file_listing.proofs.Faults.{one_more_block}
use Rattle.file_listing.proofs.search_blocks.end_of_blocks.Goals as goal

pub loop-number-init : goal.loop-number-init
loop-number-init c = record { inside = c.requires; blocks = []; number = refl; read = refl }

pub loop-number-preserved : goal.loop-number-preserved
loop-number-preserved c =
    one_more_block c.args.kind c.args.file.now 10 c.loop-number.number (c.loop-number.number + 1) c.loop-number.end c.in-Ok.next c.loop-number.invariant c.in-Ok.ensures.ok (omega arith)
