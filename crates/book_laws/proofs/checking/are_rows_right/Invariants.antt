use Rattle.std.proofs.Common.{◌≡◌, ◌&&◌}
use Rattle.std.specs.List.{list_all}
use Rattle.book_laws.specs.CheckBook.{has_right_number, has_paying_account, are_numbers_right, have_paying_accounts}
use Rattle.book_laws.proofs.checking.are_rows_right.Given as goal

abbrev pub invariant-loop-key : goal.invariant-loop-key
invariant-loop-key l =
    (list_all (λ row. has_right_number row.0) l.key-iterator && list_all (λ row. has_paying_account l.book row.1) l.key-iterator)
    ≡ (are_numbers_right l.book && have_paying_accounts l.book)
