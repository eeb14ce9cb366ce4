use Rattle.book_laws.proofs.WrittenTokens.{then}
use Rattle.reason_json.specs.Lines.{written_data}
use Rattle.reason_json.proofs.RowTokens.{written_as}
use Rattle.reason_json.proofs.Parts.{array_tokens}
use Rattle.reason_json.proofs.sets.put_writes.Goals as goal

pub returns : goal.returns
returns c =
    written_as (array_tokens (written_data c.args.cards) c.args.writes.now)
    (then c.in_ok-begin_array.ensures (then c.in_ok-put_each_written.ensures c.in_ok-end_array.ensures))
