use Rattle.std.proofs.lemmas.Result.{on_ok_weaker}
use Rattle.json.specs.Token.{null}
use Rattle.book_text.proofs.Tokens.{one_token}
use Rattle.book_text.proofs.json_writer.JsonWriter.null.Goals as goal

pub returns : goal.returns
returns c = on_ok_weaker _ (one_token null) c.put.ensures
