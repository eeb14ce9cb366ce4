use Rattle.std.proofs.Common.{◌≡◌, List, [], rules, subst, sym, ◌∙◌}
use Rattle.std.specs.List.{AllByRecursion}
use Rattle.issuer_words.specs.Words.{RowKey, RowVal}
use Rattle.book_laws.specs.Text.{IsReadAgain}
use Rattle.book_laws.proofs.BookAgain.{book_text_again}
use Rattle.book_text.proofs.listed_rows.ListedRows.new.Goals as goal

pub returns-clause-back : goal.returns-clause-back
returns-clause-back c book is =
    let left : List (RowKey × RowVal) = c.loop-key.key-iterator in
    let none : left ≡ [] = search rules in
    let whole : c.into_iter-key-iterator.result ≡ c.args.rows.now = search rules in
    book_text_again book (subst (AllByRecursion IsReadAgain) (whole ∙ is) (c.loop-key.invariant.read (subst (AllByRecursion IsReadAgain) (sym none) tt)))
