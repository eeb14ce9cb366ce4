use Rattle.std.proofs.Common.{◌+◌, refl, arith}
use Rattle.iso8583.proofs.OrderLaws.{part_decides, part_agrees, part_ends, fewer}
use Rattle.iso8583.proofs.order.order.Goals as goal

pub returns-in_default-order_eight : goal.returns-in_default-order_eight
returns-in_default-order_eight c =
    let a = c.args.a.now in
    let b = c.args.b.now in
    let first = part_agrees a b c.requires.same 0 8 (omega arith) refl _ c.order_eight.ensures c.in-Equal.is in
    part_decides a b c.requires.same c.min.result 8 (omega arith) (fewer a b c.requires.same 8 c.min.result (omega arith) first) _ c.order_eight-2.ensures c.in_default-order_eight.not-Equal

pub returns-in_default-order_eight-2 : goal.returns-in_default-order_eight-2
returns-in_default-order_eight-2 c =
    let a = c.args.a.now in
    let b = c.args.b.now in
    let first = part_agrees a b c.requires.same 0 8 (omega arith) refl _ c.order_eight.ensures c.in-Equal.is in
    let second = part_agrees a b c.requires.same c.min.result 8 (omega arith) (fewer a b c.requires.same 8 c.min.result (omega arith) first) _ c.order_eight-2.ensures c.in-Equal-order_eight.is in
    part_decides a b c.requires.same c.min-2.result 8 (omega arith) (fewer a b c.requires.same (c.min.result + 8) c.min-2.result (omega arith) second) _ c.order_eight-3.ensures c.in_default-order_eight-2.not-Equal

pub returns : goal.returns
returns c =
    let a = c.args.a.now in
    let b = c.args.b.now in
    let first = part_agrees a b c.requires.same 0 8 (omega arith) refl _ c.order_eight.ensures c.in-Equal.is in
    let second = part_agrees a b c.requires.same c.min.result 8 (omega arith) (fewer a b c.requires.same 8 c.min.result (omega arith) first) _ c.order_eight-2.ensures c.in-Equal-order_eight.is in
    let third = part_agrees a b c.requires.same c.min-2.result 8 (omega arith) (fewer a b c.requires.same (c.min.result + 8) c.min-2.result (omega arith) second) _ c.order_eight-3.ensures c.in-Equal-order_eight-2.is in
    part_ends a b c.requires.same _ 8 (omega arith) (fewer a b c.requires.same (c.min-2.result + 8) _ (omega arith) third) _ c.order_eight-4.ensures (omega arith)
