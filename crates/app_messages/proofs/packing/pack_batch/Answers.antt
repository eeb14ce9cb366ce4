use Rattle.std.proofs.Common.{◌∙◌, inr}
use Rattle.std.proofs.lemmas.List.{length-map}
use Rattle.std.proofs.lemmas.Result.{err_from_is_err_and}
use Rattle.file_batch.specs.Bodies.{bytes_of}
use Rattle.app_messages.proofs.packing.pack_batch.Goals as goal

pub returns-clause-packed : goal.returns-clause-packed
returns-clause-packed g c = record {
  bodies = bytes_of c.in_ok-bodies.bodies.items;
  there = c.in_ok-bodies.ensures.there;
  lines = c.in_ok-bodies.ensures.bodies;
  counted = rw length-map (c.len.ensures ∙ c.in_ok-bodies.bodies.ok.0);
  packed = rw c.deref.ensures.value at c.in_ok-put_batch.ensures.put;
}

pub returns-in_err-put_batch-clause-fault : goal.returns-in_err-put_batch-clause-fault
returns-in_err-put_batch-clause-fault g c =
    let p = err_from_is_err_and c.from_residual-in_err-put_batch.result c.from_residual-in_err-put_batch.ensures.1 in
    rw (p.1, p.2) (inr (bytes_of c.in_ok-bodies.bodies.items, c.in_ok-bodies.ensures.bodies, c.in_err-put_batch.ensures.fault))
