use Rattle.book_laws.proofs.WrittenTokens.{then}
use Rattle.message_text.specs.Lines.{place_members, frame_members}
use Rattle.message_text.proofs.ElementMembers.{line_of}
use Rattle.message_text.proofs.lines.frame_line.Goals as goal

pub returns : goal.returns
returns c =
    let all = then c.in_ok-begin_object.ensures (then c.in_ok-put_place.ensures (then c.in_ok-put_frame.ensures c.in_ok-end_object.ensures)) in
    line_of c.into_line.result (place_members c.args.place) (frame_members c.args.cards c.args.frame.now) all c.empty-out.ensures c.into_line.ensures
