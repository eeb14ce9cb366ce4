use Rattle.std.proofs.Common.{◌≡◌, ◌+◌, ◌≤◌, ◌^◌}
use Rattle.std.specs.List.{sum_by}
use Rattle.issuer_rows.specs.Backing.{kept_in, stay_if, stays}
use Rattle.book_laws.specs.CheckBook.{is_among}
use Rattle.book_laws.proofs.checking.with_stays.Given as goal

abbrev pub invariant-loop-key : goal.invariant-loop-key
invariant-loop-key l =
    (l.sum ≤ 10 ^ 15) × (l.sum + sum_by (λ row. stay_if (is_among l.paid) (kept_in row.0 row.1)) l.key-iterator ≡ l.fn.balance + stays (is_among l.paid) l.book)
