use Rattle.book_laws.proofs.WrittenTokens.{then}
use Rattle.reason_json.proofs.lines.put_head.Goals as goal

pub returns : goal.returns
returns c = then c.in_ok-number_field.ensures (then c.in_ok-message_member.ensures c.in_ok-rule_members.ensures)
