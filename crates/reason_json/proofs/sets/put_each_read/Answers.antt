use Rattle.reason_json.specs.Tokens.{read_tokens}
use Rattle.reason_json.proofs.Parts.{one_more}
use Rattle.book_text.proofs.Tokens.{no_token}
use Rattle.reason_json.proofs.sets.put_each_read.Goals as goal

pub loop-index-preserved : goal.loop-index-preserved
loop-index-preserved c =
    one_more (read_tokens c.args.cards) c.args.reads.now c.loop-index.index _ c.row.ensures.entry c.loop-index.invariant c.in_ok-put_found.ensures

pub loop-index-init : goal.loop-index-init
loop-index-init c = no_token c.args.out.now
