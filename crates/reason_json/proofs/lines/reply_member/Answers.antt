use Rattle.book_laws.proofs.WrittenTokens.{then}
use Rattle.message_text.specs.Lines.{reply_members}
use Rattle.reason_json.proofs.Parts.{object_tokens}
use Rattle.reason_json.proofs.RowTokens.{written_as}
use Rattle.reason_json.proofs.lines.reply_member.Goals as goal

pub returns : goal.returns
returns c =
    then c.in_ok-key.ensures
    (written_as (object_tokens (reply_members c.args.cards c.args.reply.now)) (then c.in_ok-begin_object.ensures (then c.in_ok-put_reply.ensures c.in_ok-end_object.ensures)))
