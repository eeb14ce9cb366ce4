use Rattle.std.proofs.Common.{List, ap, ◌∙◌}
use Rattle.json.specs.Print.{print_from}
use Rattle.issuer_words.specs.Words.{RowKey, RowVal}
use Rattle.book_laws.specs.Text.{ends_after}
use Rattle.book_text.specs.Left.{entries_tokens}
use Rattle.book_writer.proofs.span.Span.write.Goals as goal

pub returns : goal.returns
returns c =
    let span = c.args.self in
    let rows = c.range-rows.ensures in
    record {
      some = c.requires.some;
      within = c.requires.within;
      made = c.in_ok-text.ensures.text ∙ ap (λ (some : List (RowKey × RowVal)). print_from span.later (entries_tokens span.list some)) rows;
      ends = c.in_ok-text.ensures.later ∙ ap (λ (some : List (RowKey × RowVal)). ends_after span.later (entries_tokens span.list some)) rows;
    }
