use Rattle.book_laws.proofs.WrittenTokens.{then}
use Rattle.message_text.specs.Lines.{place_members, reply_members}
use Rattle.message_text.proofs.ElementMembers.{line_of}
use Rattle.message_text.proofs.lines.reply_line.Goals as goal

pub returns : goal.returns
returns c =
    let all = then c.in_ok-begin_object.ensures (then c.in_ok-put_place.ensures (then c.in_ok-put_reply.ensures c.in_ok-end_object.ensures)) in
    line_of c.into_line.result (place_members c.args.place) (reply_members c.args.cards c.args.reply.now) all c.empty-out.ensures c.into_line.ensures
