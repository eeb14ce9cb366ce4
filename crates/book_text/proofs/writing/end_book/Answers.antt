use Rattle.std.proofs.lemmas.Result.{on_ok_weaker}
use Rattle.book_laws.proofs.WrittenTokens.{then}
use Rattle.book_text.proofs.writing.end_book.Goals as goal

pub returns : goal.returns
returns c = on_ok_weaker _ (λ ended. then c.in_ok-key.ensures (then c.in_ok-number.ensures ended)) c.end_object.ensures
