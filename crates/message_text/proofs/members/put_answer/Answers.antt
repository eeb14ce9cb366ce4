use Rattle.book_laws.proofs.WrittenTokens.{then}
use Rattle.message_text.proofs.members.put_answer.Goals as goal

pub returns : goal.returns
returns c = then (rw (c.type_of_reply.ensures) at c.in_ok-text_field.ensures) c.in_ok-put_elements.ensures
