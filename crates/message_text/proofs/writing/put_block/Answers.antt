use Rattle.book_text.proofs.Tokens.{no_token}
use Rattle.message_text.proofs.writing.put_block.Goals as goal

pub returns-in-None : goal.returns-in-None
returns-in-None c = rw c.in-None.is (no_token c.args.out.now)
