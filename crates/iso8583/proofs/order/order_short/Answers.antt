use Rattle.std.proofs.Common.{refl, arith}
use Rattle.iso8583.proofs.OrderLaws.{part_agrees, part_ends, fewer}
use Rattle.iso8583.proofs.order.order_short.Goals as goal

pub returns-in-Equal : goal.returns-in-Equal
returns-in-Equal c =
    let a = c.args.a.now in
    let b = c.args.b.now in
    let first = part_agrees a b c.requires.same 0 4 (omega arith) refl _ c.order_four.ensures c.in-Equal.is in
    part_ends a b c.requires.same _ 4 (omega arith) (fewer a b c.requires.same 4 _ (omega arith) first) _ c.order_four-in-Equal.ensures (omega arith)
