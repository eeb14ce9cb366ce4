use Rattle.std.proofs.Common.{◌≡◌, ◌++◌, ap, sym, ◌∙◌, slice_range, arith}
use Rattle.json.specs.Print.{print_from}
use Rattle.book_laws.specs.Text.{ends_after}
use Rattle.book_text.specs.Left.{entries_tokens}
use Rattle.book_writer.specs.Rest.{rest_at}
use Rattle.book_writer.specs.declared.text_left.TextPlace.{TextPlace}
use Rattle.book_text.proofs.Printing.{piece_split}
use Rattle.book_writer.proofs.text_left.TextLeft.go_on.Goals as goal

pub returns-clause-rest : goal.returns-clause-rest
returns-clause-rest c =
    let s = c.args.self.now in
    let span = c.args.span in
    let rows = s.rows.now in
    let text = s.text.items in
    let piece : text ≡ print_from s.later (entries_tokens span.list (slice_range rows s.at span.end))
    = c.requires.made.made
    ∙ (λ i. print_from (c.requires.later i) (entries_tokens span.list (slice_range rows (c.requires.at i) span.end))) in
    let ends : c.args.goes_on ≡ ends_after s.later (entries_tokens span.list (slice_range rows s.at span.end))
    = c.requires.made.ends
    ∙ (λ i. ends_after (c.requires.later i) (entries_tokens span.list (slice_range rows (c.requires.at i) span.end))) in
    ap (λ (p : TextPlace). rest_at p s.later s.at rows) c.requires.place
    ∙ piece_split s.later c.args.goes_on span.list s.at span.end rows text (omega (arith, c.requires.at, c.requires.some)) piece ends
    ∙ ap (λ (p : TextPlace). text ++ rest_at p c.args.goes_on span.end rows) (sym c.requires.place)
