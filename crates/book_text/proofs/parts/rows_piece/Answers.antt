use Rattle.std.proofs.Common.{ℕ, List, ◌++◌, ap, ◌∙◌}
use Rattle.json.specs.Print.{print_from}
use Rattle.book_laws.specs.Text.{JsonText, ends_after}
use Rattle.book_text.specs.Left.{entries_tokens}
use Rattle.book_text.proofs.parts.rows_piece.Goals as goal

pub returns-clause-text : goal.returns-clause-text
returns-clause-text c =
    c.into_parts.ensures.text ∙ c.in_ok-write_rows.ensures.written
    ∙ ap (λ (t : JsonText). t.text ++ print_from t.after_value (entries_tokens c.args.list c.args.rows.now))
    (c.new-out.ensures ∙ ap (λ (items : List ℕ). record { text = items; after_value = c.args.later }) c.requires)

pub returns-clause-later : goal.returns-clause-later
returns-clause-later c =
    c.into_parts.ensures.after ∙ c.in_ok-write_rows.ensures.after
    ∙ ap (λ (t : JsonText). ends_after t.after_value (entries_tokens c.args.list c.args.rows.now)) c.new-out.ensures
