use Rattle.std.proofs.Common.{◌≡◌, ◌+◌, ap, rules}
use Rattle.std.proofs.lemmas.List.Sorted.{sum_by-IsPermutation}
use Rattle.issuer_rows.specs.Backing.{kept_in, stay_if, stays}
use Rattle.book_laws.specs.CheckBook.{is_among}
use Rattle.book_laws.proofs.checking.with_stays.Goals as goal

pub loop-key-init : goal.loop-key-init
loop-key-init c =
    let same : c.into_iter-key-iterator.result ≡ c.rows-key-items.result = search rules in (
      c.minor-sum.ensures.bound,
      rw (same, sum_by-IsPermutation (λ row. stay_if (is_among c.args.paid.now) (kept_in row.0 row.1)) _ _ c.rows-key-items.ensures) (ap (λ n. n + stays (is_among c.args.paid.now) c.args.book.now) c.minor-sum.ensures.value),
    )
