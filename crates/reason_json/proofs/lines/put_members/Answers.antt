use Rattle.std.proofs.Common.{sym}
use Rattle.std.proofs.lemmas.List.{append-nil}
use Rattle.book_laws.proofs.WrittenTokens.{then}
use Rattle.reason_json.specs.Lines.{head_members, reply_member, row_members}
use Rattle.reason_json.proofs.Parts.{all_behind}
use Rattle.reason_json.proofs.RowTokens.{written_as}
use Rattle.reason_json.proofs.lines.put_members.Goals as goal

pub returns : goal.returns
returns c = rw (sym c.frame.ensures.frame, sym c.reads.ensures, sym c.writes.ensures, sym c.reply.ensures)
    (written_as (all_behind (head_members c.args.cards c.args.index c.frame.result.now c.args.explanation.now.rule)
    (row_members c.args.cards c.reads.result.now c.writes.result.now) (reply_member c.args.cards c.reply.result.now))
    (then c.in_ok-put_head.ensures (then c.in_ok-put_rows.ensures (written_as (sym (append-nil _)) c.in_ok-reply_member.ensures))))
