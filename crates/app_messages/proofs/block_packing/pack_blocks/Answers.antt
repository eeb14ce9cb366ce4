use Rattle.std.proofs.Common.{inr}
use Rattle.std.proofs.lemmas.Result.{err_from_is_err_and}
use Rattle.app_messages.specs.Handed.{bodies_of_blocks}
use Rattle.app_messages.proofs.block_packing.pack_blocks.Goals as goal

pub returns-clause-packed : goal.returns-clause-packed
returns-clause-packed g c = record {
  blocks = bodies_of_blocks c.in_ok-blocks.blocks.items;
  there = c.in_ok-blocks.ensures.there;
  lines = c.in_ok-blocks.ensures.blocks;
  counted = rw c.deref-2.ensures.value at c.count_bodies.ensures;
  packed = rw c.deref.ensures.value at c.in_ok-put_blocks.ensures.put;
}

pub returns-in_err-put_blocks-clause-fault : goal.returns-in_err-put_blocks-clause-fault
returns-in_err-put_blocks-clause-fault g c =
    let p = err_from_is_err_and c.from_residual-in_err-put_blocks.result c.from_residual-in_err-put_blocks.ensures.1 in
    rw (p.1, p.2) (inr (bodies_of_blocks c.in_ok-blocks.blocks.items, c.in_ok-blocks.ensures.blocks, c.in_err-put_blocks.ensures.fault))
