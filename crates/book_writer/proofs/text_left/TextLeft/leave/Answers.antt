use Rattle.std.proofs.Common.{ℕ, ◌++◌, List, false, ap, sym, ◌∙◌, append-nil}
use Rattle.issuer_words.specs.Words.{RowKey, RowVal}
use Rattle.book_text.specs.Left.{text_left}
use Rattle.book_writer.specs.Rest.{rest_at}
use Rattle.book_writer.specs.declared.text_left.TextPlace.{TextPlace}
use Rattle.book_text.proofs.Printing.{left_before, left_last}
use Rattle.book_writer.proofs.text_left.TextLeft.leave.Goals as goal

pub returns-in_ok-self-in-Some-clause-rest : goal.returns-in_ok-self-in-Some-clause-rest
returns-in_ok-self-in-Some-clause-rest c =
    let s = c.args.self.now in
    let next = c.in-Some.next in
    ap (λ (p : TextPlace). rest_at p s.later s.at s.rows.now) c.requires.place
    ∙ ap (λ (left : List (RowKey × RowVal)). text_left s.later c.args.list left s.rows.now) c.requires.rows
    ∙ left_before s.later c.args.list next s.rows.now (sym c.list_behind.ensures ∙ c.in-Some.is)
    ∙ ap (λ (text : List ℕ). text ++ text_left false next s.rows.now s.rows.now) (sym c.in_ok-self-in-Some.ensures)

pub returns-in_ok-self-in-None-clause-rest : goal.returns-in_ok-self-in-None-clause-rest
returns-in_ok-self-in-None-clause-rest c =
    let s = c.args.self.now in
    ap (λ (p : TextPlace). rest_at p s.later s.at s.rows.now) c.requires.place
    ∙ ap (λ (left : List (RowKey × RowVal)). text_left s.later c.args.list left s.rows.now) c.requires.rows
    ∙ left_last s.later c.args.list s.rows.now (sym c.list_behind.ensures ∙ c.in-None.is)
    ∙ sym c.in_ok-self-in-None.ensures
    ∙ sym (append-nil c.in_ok-self-in-None.field-0.items)
