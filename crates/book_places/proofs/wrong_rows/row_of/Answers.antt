use Rattle.std.proofs.Common.{◌∙◌, sym}
use Rattle.serde_json.specs.View.{view}
use Rattle.book_places.proofs.OldRows.{old_row}
use Rattle.book_places.proofs.wrong_rows.row_of.Goals as goal

pub returns-in-Ok : goal.returns-in-Ok
returns-in-Ok c =
    old_row c.args.version c.args.list (view c.args.entry.now) c.in-Ok.card c.old_row.result (sym c.has_old_cards.ensures ∙ c.if-has_old_cards.true) (sym c.in-Ok.ensures)
    c.old_row.ensures
