use Rattle.std.proofs.Common.{drop}
use Rattle.issuer_rows.specs.Fold.{Rows}
use Rattle.book_json.specs.ReadsOn.{TakesRows, pairs_of}
use Rattle.book_json.proofs.book_reader.put_rows.Given as goal

-- once the book takes the rows that are left, it has taken all
abbrev pub invariant-loop-row : goal.invariant-loop-row
invariant-loop-row l = (after : Rows) → TakesRows (pairs_of (drop l.row-index l.rows)) l.book after → TakesRows (pairs_of l.rows) l.fn.book after
