use Rattle.std.proofs.Common.{◌≡◌, ℕ, false, subst, List, ap, sym, ◌∙◌}
use Rattle.std.specs.FinMap as map
use Rattle.issuer_words.specs.Words.{RowKey, RowVal, Rows}
use Rattle.book_laws.specs.Reading.{reading}
use Rattle.book_laws.specs.Text.{Adds, JsonText, tokens_of, top_data, book_data}
use Rattle.book_laws.proofs.WrittenTokens.{printed}
use Rattle.book_text.specs.ByKind.{StandByKind}
use Rattle.book_text.proofs.ByKind.{book_stands}
use Rattle.book_text.proofs.writing.write_book.Goals as goal

-- what is written of the sorted rows is written of the book
of_book : {before after : JsonText} (book : Rows) {rows : List (RowKey × RowVal)} → rows ≡ map.entries book → Adds before after (tokens_of (top_data rows))
    → Adds before after (tokens_of (book_data book))
of_book {before} {after} book sorted h = subst (λ (rows : List (RowKey × RowVal)). Adds before after (tokens_of (top_data rows))) sorted h

pub returns-clause-text : goal.returns-clause-text
returns-clause-text c =
    let all = of_book c.args.book.now (c.new-rows.ensures.rows ∙ c.in_ok-sorted.ensures.rows) c.in_ok-write_top.ensures in
    printed c.into_parts.result.0.items (book_data c.args.book.now) c.into_parts.ensures.text all
    (c.new-out.ensures ∙ ap (λ (items : List ℕ). record { text = items; after_value = false }) c.in_ok-room_for.ensures)

pub returns-clause-back : goal.returns-clause-back
returns-clause-back c = ap reading (returns-clause-text c) ∙ c.new-rows.ensures.back c.args.book.now c.in_ok-sorted.ensures.rows

pub new-rows-requires : goal.new-rows-requires
new-rows-requires c = subst StandByKind (sym c.in_ok-sorted.ensures.rows) (book_stands c.args.book.now c.in_ok-sorted.ensures.kinds)
