use Rattle.std.proofs.lemmas.Result.{on_ok_weaker}
use Rattle.book_laws.proofs.WrittenTokens.{then}
use Rattle.reason_json.proofs.rows.put_other.Goals as goal

pub returns : goal.returns
returns c = on_ok_weaker _ (then (rw c.kind_name.ensures at c.in_ok-begin_row.ensures)) c.end_object.ensures
