use Rattle.std.proofs.lemmas.Result.{on_ok_weaker}
use Rattle.json.specs.Token.{end_array}
use Rattle.book_text.proofs.Tokens.{one_token}
use Rattle.book_text.proofs.json_writer.JsonWriter.end_array.Goals as goal

pub returns : goal.returns
returns c = on_ok_weaker _ (one_token end_array) c.put.ensures
