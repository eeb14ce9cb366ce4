use Rattle.std.proofs.Common.{◌≡◌, rules}
use Rattle.std.proofs.ByRecursion.{all_shuffled}
use Rattle.std.proofs.lemmas.List.Sorted.{IsPermutation-sym}
use Rattle.book_laws.specs.CheckBook.{IsRowInRange}
use Rattle.book_laws.proofs.checking.are_rows_in_range.Goals as goal

pub loop-key-init : goal.loop-key-init
loop-key-init c =
    let same : c.into_iter-key-iterator.result ≡ c.rows-key-items.result = search rules in
    rw same (
      all_shuffled (λ row. IsRowInRange c.args.book.now row.0 row.1) _ _ (IsPermutation-sym _ _ c.rows-key-items.ensures),
      all_shuffled (λ row. IsRowInRange c.args.book.now row.0 row.1) _ _ c.rows-key-items.ensures,
    )
