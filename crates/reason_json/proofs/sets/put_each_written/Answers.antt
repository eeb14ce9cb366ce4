use Rattle.reason_json.specs.Tokens.{written_tokens}
use Rattle.reason_json.proofs.Parts.{one_more}
use Rattle.book_text.proofs.Tokens.{no_token}
use Rattle.reason_json.proofs.sets.put_each_written.Goals as goal

pub loop-index-preserved : goal.loop-index-preserved
loop-index-preserved c =
    one_more (written_tokens c.args.cards) c.args.writes.now c.loop-index.index _ c.row.ensures.entry c.loop-index.invariant c.in_ok-put_row.ensures

pub loop-index-init : goal.loop-index-init
loop-index-init c = no_token c.args.out.now
