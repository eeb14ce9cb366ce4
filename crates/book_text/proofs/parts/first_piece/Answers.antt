use Rattle.std.proofs.Common.{ℕ, false, List, ap, ◌∙◌}
use Rattle.book_laws.proofs.WrittenTokens.{text_of_written, then}
use Rattle.book_text.proofs.parts.first_piece.Goals as goal

pub returns : goal.returns
returns c =
    text_of_written c.into_parts.result.0.items c.into_parts.ensures.text (then c.in_ok-begin_object.ensures c.in_ok-open_list.ensures)
    (c.new-out.ensures ∙ ap (λ (items : List ℕ). record { text = items; after_value = false }) c.requires)
