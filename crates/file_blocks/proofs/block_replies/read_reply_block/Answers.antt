use Rattle.file_batch.specs.Window.{ahead}
use Rattle.file_blocks.proofs.ReadReplyBlocks.{gives_block}
use Rattle.file_blocks.proofs.block_replies.read_reply_block.Goals as goal

pub returns-clause-gives : goal.returns-clause-gives
returns-clause-gives g c = λ known.
    gives_block c.args.from (ahead c.args.window.now (g.R.Source.remaining c.args.source.now)) c.in_ok-count.count
    (ahead c.read_count.new.self (g.R.Source.remaining c.read_count.new.source)) c.read_replies.result (ahead c.read_replies.new.self (g.R.Source.remaining c.read_replies.new.source))
    (c.in_ok-count.ensures.gives known) (c.read_replies.ensures.gives (c.in_ok-count.ensures.device.known known))
