use Rattle.std.proofs.Common.{inl, refl, sym, true≢false, ◌∙◌}
use Rattle.serde_json.specs.View.{view}
use Rattle.book_places.proofs.Found.{in_text}
use Rattle.book_places.proofs.Values.{value_is, value_none}
use Rattle.book_places.proofs.places.place_in_book.Goals as goal

pub returns-in-Ok : goal.returns-in-Ok
returns-in-Ok c =
    let ok = c.in-Ok.ensures.ok in
    in_text c.args.text.now (view c.in-Ok.top) c.place_in_top.result (value_is c.args.text.now (view c.in-Ok.top) ok.0 ok.1) c.place_in_top.ensures

pub returns-in-Err-2 : goal.returns-in-Err-2
returns-in-Err-2 c =
    inl (
      value_none c.args.text.now (λ utf8. c.in-Err.ensures.err (λ m. absurd (true≢false (sym (c.is_memory.ensures.1 m) ∙ c.if-is_memory.false))) utf8),
      refl,
      tt,
    )
