use Rattle.std.proofs.Common.{◌≡◌, rules}
use Rattle.issuer_rows.proofs.BookLaws.{all_pass_shuffled}
use Rattle.book_laws.specs.CheckBook.{has_accounts}
use Rattle.book_laws.proofs.checking.have_accounts.Goals as goal

pub loop-val-init : goal.loop-val-init
loop-val-init c =
    let same : c.into_iter-val-iterator.result ≡ c.rows-val-items.result = search rules in
    rw same (all_pass_shuffled (λ row. has_accounts c.args.book.now row.1) _ _ c.rows-val-items.ensures)
