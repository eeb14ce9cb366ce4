use Rattle.std.proofs.Common.{◌≡◌, Ok, ap, sym, subst, ◌∙◌}
use Rattle.book_laws.specs.Reading.{reading}
use Rattle.book_laws.specs.Text.{book_text}
use Rattle.file_batch.specs.declared.body_count.BodyCount.{BodyCount}
use Rattle.issuer_rows.specs.Fold.{Rows}
use Rattle.app_parts.proofs.deciding.decide_bytes.Goals as goal

pub returns-clause-decided : goal.returns-clause-decided
returns-clause-decided g c =
    let decided = c.in-Ok-decide_in_order.ensures.decides in
    record {
      rows = c.in-Ok.book;
      opening = c.in-Ok.ensures;
      frames = decided.0;
      messages = decided.2 tt;
      counted = ap (λ (count : BodyCount). count.bodies) decided.1.0.1;
      replies_are = decided.1.1;
      book_is = c.in_ok-new_book.ensures.text ∙ ap book_text decided.1.0.0;
      back = subst (λ (rows : Rows). reading (book_text rows) ≡ Ok rows) decided.1.0.0 (ap reading (sym c.in_ok-new_book.ensures.text) ∙ c.in_ok-new_book.ensures.back);
      bodies = decided.1.2;
    }
