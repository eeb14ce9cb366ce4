use Rattle.book_text.proofs.Tokens.{no_token}
use Rattle.message_text.proofs.writing.put_fault_element.Goals as goal

pub returns-then-element-eq0 : goal.returns-then-element-eq0
returns-then-element-eq0 c = rw c.if-element-eq0.true (no_token c.args.out.now)
