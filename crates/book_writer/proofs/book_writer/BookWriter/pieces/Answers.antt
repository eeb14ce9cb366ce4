use Rattle.std.proofs.Common.{ap, ◌∙◌}
use Rattle.serde_json.proofs.Texts.{print-outline}
use Rattle.book_laws.specs.Text.{book_data}
use Rattle.book_text.specs.Left.{text_of_rows}
use Rattle.book_writer.proofs.book_writer.BookWriter.pieces.Goals as goal

pub returns-in-Some-clause-rest : goal.returns-in-Some-clause-rest
returns-in-Some-clause-rest g c book are = c.new.ensures.rest ∙ ap text_of_rows are ∙ print-outline (book_data book)
