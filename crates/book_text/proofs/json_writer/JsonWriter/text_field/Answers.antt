use Rattle.std.proofs.lemmas.Result.{on_ok_weaker}
use Rattle.book_laws.proofs.WrittenTokens.{then}
use Rattle.book_text.proofs.json_writer.JsonWriter.text_field.Goals as goal

pub returns : goal.returns
returns c = on_ok_weaker _ (then c.in_ok-key.ensures) c.string.ensures
