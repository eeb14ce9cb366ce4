use Rattle.std.proofs.Common.{true}
use Rattle.std.proofs.lemmas.Result.{on_ok_weaker}
use Rattle.json.specs.Token.{boolean}
use Rattle.book_text.proofs.Tokens.{one_token}
use Rattle.book_text.proofs.json_writer.JsonWriter.put_true.Goals as goal

pub returns : goal.returns
returns c = on_ok_weaker _ (one_token (boolean true)) c.put.ensures
