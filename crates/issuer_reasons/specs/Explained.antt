-- Why a body is decided so: its rule, and the decision with the rows that it reads and writes.
use Rattle.std.specs.Prelude.{◌≡◌, ℕ, List, Some, slice_get, take}
use Rattle.std.specs.FinMap as map
use Rattle.issuer_words.specs.Words.{Agrees, Frame, Rows, decision, keys_read, replies_to, reply_of, rows_after, writes_of}
use Rattle.issuer_laws.specs.Rules.{IsDecidedBy, decided_by}
use Rattle.issuer_reasons.specs.declared.explanation.Explanation.{Explanation}

-- The rule is the first of the body's table whose condition holds, and the reply and the rows that are written are those that it says; the
-- rows that were read are those that the decision needs, in their order, each as it stands in the book.
pub record Explains (rows : Rows) (frame : Frame) (e : Explanation) : Type 0 where
  pub body : e.execution.frame ≡ frame
  pub rule : e.rule ≡ decided_by rows frame
  pub decided : IsDecidedBy rows frame e.rule
  pub needed : keys_read e.execution.reads ≡ (decision (map.get rows) frame).needs
  pub read : Agrees e.execution.reads (map.get rows)
  pub written : e.execution.writes ≡ writes_of rows frame
  pub reply : e.execution.reply ≡ reply_of rows frame

-- the same of the body at this place, on the book after those before it; its reply is the one that the batch gets there
pub record ExplainsAt (rows : Rows) (frames : List Frame) (index : ℕ) (e : Explanation) : Type 0 where
  pub body : slice_get frames index ≡ Some e.execution.frame
  pub explains : Explains (rows_after rows (take index frames)) e.execution.frame e
  pub reply : slice_get (replies_to rows frames) index ≡ Some e.execution.reply
