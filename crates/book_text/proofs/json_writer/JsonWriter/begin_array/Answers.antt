use Rattle.std.proofs.lemmas.Result.{on_ok_weaker}
use Rattle.json.specs.Token.{begin_array}
use Rattle.book_text.proofs.Tokens.{one_token}
use Rattle.book_text.proofs.json_writer.JsonWriter.begin_array.Goals as goal

pub returns : goal.returns
returns c = on_ok_weaker _ (one_token begin_array) c.put.ensures
