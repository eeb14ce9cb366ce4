use Rattle.std.proofs.Common.{◌+◌, drop, ap, ◌∙◌, arith}
use Rattle.std.specs.FinMap as map
use Rattle.issuer_rows.proofs.BookLaws.{insert_seen, kinds_put}
use Rattle.issuer_rows.proofs.OverlayLaws.{overlay-drop}
use Rattle.issuer_rows.specs.Fold.{Rows, overlay}
use Rattle.issuer_rows.proofs.book.put_each.Goals as goal

pub loop-index-preserved : goal.loop-index-preserved
loop-index-preserved g c =
    let written = g.W.RowsToWrite.rows c.args.written.now in
    let index = c.loop-index.index in
    let key = c.row.result.0.now in
    let val = c.row.result.1.now in
    let before = c.loop-index.rows.entries in
    let after = c.put_in_room.new.rows.entries in
    let puts = c.put_in_room.ensures.updates.0 in
    record {
      left = ap (λ (rows : Rows). overlay rows (drop (index + 1) written)) (insert_seen before after key val puts)
          ∙ overlay-drop (map.from_entries before) written index (key, val) c.row.ensures.entry
          ∙ c.loop-index.invariant.left;
      room = omega (arith, c.loop-index.invariant.room, c.put_in_room.ensures.room);
      kinds = kinds_put before after key val c.loop-index.invariant.kinds c.row.ensures.kind puts;
    }
