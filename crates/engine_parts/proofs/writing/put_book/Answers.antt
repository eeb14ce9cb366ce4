use Rattle.engine_parts.proofs.JoinLaws.{to_write}
use Rattle.engine_parts.proofs.writing.put_book.Goals as goal

pub loop-key-init : goal.loop-key-init
loop-key-init c =
    let begins = to_write c.args.book.now c.args.written.now c.rows-key-items.result _ c.rows-key-items.ensures c.into_iter-key-iterator.ensures.into_iter_gives in
    record { left = begins.0; there = begins.1 }
