use Rattle.std.proofs.Common.{[]}
use Rattle.book_laws.proofs.WrittenTokens.{then}
use Rattle.message_text.proofs.ElementMembers.{line_of}
use Rattle.reason_json.specs.Lines.{why_members}
use Rattle.reason_json.proofs.lines.why_line.Goals as goal

pub returns : goal.returns
returns c =
    let all = then c.in_ok-begin_object.ensures (then c.in_ok-put_members.ensures c.in_ok-end_object.ensures) in
    line_of c.into_line.result [] (why_members c.args.cards c.args.index c.args.explanation.now) all c.empty-out.ensures c.into_line.ensures
