use Rattle.std.proofs.Common.{sym}
use Rattle.book_laws.proofs.WrittenTokens.{then}
use Rattle.book_text.proofs.Tokens.{no_token}
use Rattle.message_text.proofs.writing.put_element.Goals as goal

pub returns-in_ok-put_value : goal.returns-in_ok-put_value
returns-in_ok-put_value c = rw (c.in-Some.is, sym c.name_of.ensures) (then c.in_ok-key.ensures c.in_ok-put_value.ensures)

pub returns-in_default : goal.returns-in_default
returns-in_default c = rw c.in_default.is (no_token c.args.out.now)
