-- Texts of rows that are made ahead.
use Rattle.std.specs.Prelude.{◌≡◌, ℕ, ◌<◌, ◌≤◌, List, length, Bool, slice_range}
use Rattle.json.specs.Print.{print_from}
use Rattle.issuer_words.specs.Words.{RowKey, RowVal}
use Rattle.book_laws.specs.Text.{ends_after}
use Rattle.book_text.specs.Left.{entries_tokens}
use Rattle.book_writer.specs.declared.span.Span.{Span}

-- the rows of a span, which are some of these
abbrev pub rows_of_span : List (RowKey × RowVal) → Span → List (RowKey × RowVal)
rows_of_span rows span = slice_range rows span.at span.end

-- the text of those of its rows that stand in its list, and whether an entry stands before the rows behind them
pub record IsTextOf (rows : List (RowKey × RowVal)) (span : Span) (text : List ℕ) (goes_on : Bool) : Type 0 where
  pub some : span.at < span.end
  pub within : span.end ≤ length rows
  pub made : text ≡ print_from span.later (entries_tokens span.list (rows_of_span rows span))
  pub ends : goes_on ≡ ends_after span.later (entries_tokens span.list (rows_of_span rows span))
