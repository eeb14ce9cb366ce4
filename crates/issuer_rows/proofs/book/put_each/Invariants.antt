use Rattle.std.proofs.Common.{◌≡◌, ◌+◌, ◌≤◌, drop, length}
use Rattle.std.specs.FinMap as map
use Rattle.indexmap.specs.IndexMap.{spare}
use Rattle.issuer_rows.specs.Book.{AreOfKind}
use Rattle.issuer_rows.specs.Fold.{overlay}
use Rattle.issuer_rows.proofs.book.put_each.Given as goal

-- the rows from this one on are left, and there is room for them
abbrev pub invariant-loop-index : goal.invariant-loop-index
invariant-loop-index g l =
    let rows = g.W.RowsToWrite.rows l.written in
    record {
      left : overlay (map.from_entries l.rows.entries) (drop l.index rows) ≡ overlay (map.from_entries l.fn.rows.entries) rows;
      room : length rows ≤ spare l.rows + l.index;
      kinds : AreOfKind l.rows.entries;
    }
