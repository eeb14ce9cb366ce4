use Rattle.std.proofs.lemmas.Result.{on_ok_weaker}
use Rattle.json.specs.Token.{end_object}
use Rattle.book_text.proofs.Tokens.{one_token}
use Rattle.book_text.proofs.json_writer.JsonWriter.end_object.Goals as goal

pub returns : goal.returns
returns c = on_ok_weaker _ (one_token end_object) c.put.ensures
