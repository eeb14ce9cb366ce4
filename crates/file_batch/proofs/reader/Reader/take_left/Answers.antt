use Rattle.std.proofs.Common.{◌++◌, List, length, refl, ap, arith}
use Rattle.rtrb.specs.Ring.{received, known_items}
use Rattle.file_batch.proofs.Handed.{told_one_more, one_moved, all_moved}
use Rattle.file_batch.specs.declared.piece.Piece.{Piece}
use Rattle.file_batch.proofs.reader.Reader.take_left.Goals as goal

pub loop-init : goal.loop-init
loop-init c = record { outbound = refl; fifo = refl; left = omega (arith, c.requires); told = λ head told. told }

pub pop_known-piece-requires : goal.pop_known-piece-requires
pop_known-piece-requires c = omega (arith, c.loop.invariant.left, c.loop-test.true)

pub returns-in_err-add_replies-clause-outbound : goal.returns-in_err-add_replies-clause-outbound
returns-in_err-add_replies-clause-outbound c = c.loop.invariant.outbound

pub loop-preserved : goal.loop-preserved
loop-preserved c =
    let popped = c.pop_known-piece.ensures.received in
    record {
      outbound = c.loop.invariant.outbound;
      fifo = one_moved (received c.loop.self.inbound) (received c.pop_known-piece.new.self) (known_items c.loop.self.inbound) (known_items c.pop_known-piece.new.self)
          c.pop_known-piece.result (received c.args.self.now.inbound ++ known_items c.args.self.now.inbound) popped.0 popped.1 c.loop.invariant.fifo;
      left = omega (arith, c.loop.invariant.left, ap (λ (ps : List Piece). length ps) popped.1);
      told = λ head told. rw (c.in_ok-add_replies.ensures.text, c.deref.ensures.value, popped.0)
          (told_one_more head c.loop.self.out.items (received c.loop.self.inbound) c.pop_known-piece.result (c.loop.invariant.told head told) (rw c.deref.ensures.value at c.in_ok-add_replies.ensures.bodies));
    }

pub returns-clause-outbound : goal.returns-clause-outbound
returns-clause-outbound c = c.loop.invariant.outbound

pub returns-clause-received : goal.returns-clause-received
returns-clause-received c =
    all_moved (received c.loop.self.inbound) (known_items c.loop.self.inbound) (received c.args.self.now.inbound ++ known_items c.args.self.now.inbound)
    (omega (arith, c.loop.invariant.left, c.loop-test.false)) c.loop.invariant.fifo

pub returns-clause-told : goal.returns-clause-told
returns-clause-told c = c.loop.invariant.told
