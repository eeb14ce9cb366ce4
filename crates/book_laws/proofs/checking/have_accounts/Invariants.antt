use Rattle.std.proofs.Common.{◌≡◌}
use Rattle.std.specs.List.{list_all}
use Rattle.book_laws.specs.CheckBook.{has_accounts, have_accounts}
use Rattle.book_laws.proofs.checking.have_accounts.Given as goal

abbrev pub invariant-loop-val : goal.invariant-loop-val
invariant-loop-val l = list_all (λ row. has_accounts l.book row.1) l.val-iterator ≡ have_accounts l.book
