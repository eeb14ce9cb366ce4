use Rattle.std.proofs.Common.{ℕ, ◌++◌, List, false, ap, sym, ◌∙◌}
use Rattle.book_laws.specs.declared.row_list.RowList.TheVariants.{Accounts}
use Rattle.book_text.specs.Left.{text_left}
use Rattle.book_writer.specs.Rest.{rest_at}
use Rattle.book_writer.specs.declared.text_left.TextPlace.{TextPlace}
use Rattle.book_text.proofs.Printing.{begun}
use Rattle.book_writer.proofs.text_left.TextLeft.start.Goals as goal

pub returns-clause-rest : goal.returns-clause-rest
returns-clause-rest c =
    let s = c.args.self.now in
    ap (λ (p : TextPlace). rest_at p s.later s.at s.rows.now) c.requires
    ∙ begun s.rows.now
    ∙ ap (λ (text : List ℕ). text ++ text_left false Accounts s.rows.now s.rows.now) (sym c.in_ok-self.ensures)
