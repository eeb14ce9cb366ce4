use Rattle.std.proofs.Common.{length, arith, ap}
use Rattle.file_batch.proofs.Folds.{as_many}
use Rattle.log_replay.proofs.answering.Answering.answer.Goals as goal

pub write_block-requires : goal.write_block-requires
write_block-requires g c =
    let book = c.args.self.now.prefix.book in
    let block = c.args.self.now.block.items in
    let replies = rw (c.clear.ensures.items, c.deref.ensures.value) at c.in_ok-decide_each.ensures.replies in
    omega (arith, ap length c.deref-2.ensures.value, ap length replies, as_many book block, c.requires.size)
