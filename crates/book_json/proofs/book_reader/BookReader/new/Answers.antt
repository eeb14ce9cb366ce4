use Rattle.std.proofs.Common.{ℕ, ◌++◌, List, false, ap, sym, ◌∙◌, subst}
use Rattle.issuer_rows.specs.Fold.{Rows}
use Rattle.book_laws.specs.declared.row_list.RowList.TheVariants.{Accounts}
use Rattle.book_json.specs.ReadsOn.{ReadsOn}
use Rattle.book_json.proofs.ReadsOn.{begins}
use Rattle.book_json.proofs.book_reader.BookReader.new.Goals as goal

pub returns : goal.returns
returns c =
    let bytes = c.args.bytes.now in
    let rest = c.in-Some.rest.now in
    subst (λ (book : Rows). ReadsOn bytes rest Accounts false book) (sym (c.in_ok-reserve.ensures ∙ c.new-book.ensures))
    (begins bytes rest (c.in-Some.ensures ∙ ap (λ (l : List ℕ). l ++ rest) (c.deref.ensures.value ∙ c.in_ok-first.ensures)))
