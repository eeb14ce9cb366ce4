use Rattle.std.proofs.lemmas.Result.{on_ok_weaker}
use Rattle.book_laws.proofs.WrittenTokens.{then}
use Rattle.reason_json.proofs.keys.put_absence.Goals as goal

pub returns : goal.returns
returns c = on_ok_weaker _ (then c.in_ok-key.ensures) c.put_true.ensures
