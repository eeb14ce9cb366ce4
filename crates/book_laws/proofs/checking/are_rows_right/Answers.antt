use Rattle.std.proofs.Common.{◌≡◌, ◌&&◌, rules}
use Rattle.issuer_rows.proofs.BookLaws.{all_pass_shuffled}
use Rattle.book_laws.specs.CheckBook.{has_right_number, has_paying_account}
use Rattle.book_laws.proofs.checking.are_rows_right.Goals as goal

pub loop-key-init : goal.loop-key-init
loop-key-init c =
    let same : c.into_iter-key-iterator.result ≡ c.rows-key-items.result = search rules in
    let numbers = all_pass_shuffled (λ row. has_right_number row.0) _ _ c.rows-key-items.ensures in
    let payers = all_pass_shuffled (λ row. has_paying_account c.args.book.now row.1) _ _ c.rows-key-items.ensures in
    rw same (λ i. numbers i && payers i)
