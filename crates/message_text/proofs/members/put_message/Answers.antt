use Rattle.std.proofs.lemmas.Result.{on_ok_weaker}
use Rattle.book_laws.proofs.WrittenTokens.{then}
use Rattle.message_text.proofs.members.put_message.Goals as goal

pub returns : goal.returns
returns c = on_ok_weaker _ (then (rw (c.type_of_message.ensures) at c.in_ok-text_field.ensures)) c.put_elements.ensures
