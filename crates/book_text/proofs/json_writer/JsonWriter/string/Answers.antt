use Rattle.std.proofs.lemmas.Result.{on_ok_weaker}
use Rattle.json.specs.Token.{string}
use Rattle.book_text.proofs.Tokens.{one_token}
use Rattle.book_text.proofs.json_writer.JsonWriter.string.Goals as goal

pub returns : goal.returns
returns c = on_ok_weaker _ (λ put. one_token (string c.args.text.now) put) c.put_quoted.ensures
