use Rattle.std.proofs.Common.{sym}
use Rattle.std.proofs.lemmas.List.{append-nil}
use Rattle.book_laws.proofs.WrittenTokens.{then}
use Rattle.reason_json.proofs.RowTokens.{written_as}
use Rattle.reason_json.proofs.lines.put_rows.Goals as goal

pub returns : goal.returns
returns c =
    then c.in_ok-key.ensures (then c.in_ok-put_reads.ensures (then c.in_ok-key-2.ensures (written_as (sym (append-nil _)) c.in_ok-put_writes.ensures)))
