use Rattle.book_laws.proofs.WrittenTokens.{then}
use Rattle.message_text.specs.Lines.{frame_members}
use Rattle.reason_json.proofs.Parts.{object_tokens}
use Rattle.reason_json.proofs.RowTokens.{written_as}
use Rattle.reason_json.proofs.lines.message_member.Goals as goal

pub returns : goal.returns
returns c =
    then c.in_ok-key.ensures
    (written_as (object_tokens (frame_members c.args.cards c.args.frame.now)) (then c.in_ok-begin_object.ensures (then c.in_ok-put_frame.ensures c.in_ok-end_object.ensures)))
