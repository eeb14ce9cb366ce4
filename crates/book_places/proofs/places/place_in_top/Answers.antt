use Rattle.std.proofs.Common.{ap, sym, ◌∙◌}
use Rattle.issuer_rows.specs.Fold.{Rows}
use Rattle.serde_json.specs.View.{view}
use Rattle.book_laws.specs.Reading.{add_lists, all_lists}
use Rattle.book_places.proofs.Found.{in_book, where_none}
use Rattle.book_places.proofs.places.place_in_top.Goals as goal

pub returns-in-Ok-None : goal.returns-in-Ok-None
returns-in-Ok-None c =
    let top = view c.args.top.now in
    in_book c.in-Ok.version top c.place_in_lists.new.book c.unsound_place.result (sym c.in-Ok.ensures)
    (ap (λ (rows : Rows). add_lists c.in-Ok.version all_lists top rows) (sym c.new-book.ensures) ∙ where_none c.in-Ok-None.field-0 _ c.in-Ok-None.field-0-is c.in-Ok-None.ensures.right) c.unsound_place.ensures
