use Rattle.std.proofs.Common.{List, IsPermutation, subst, sym}
use Rattle.std.specs.FinMap as map
use Rattle.issuer_rows.proofs.BookLaws.{entries_shuffled}
use Rattle.issuer_rows.specs.RowKey.{key_cmp}
use Rattle.issuer_rows.specs.declared.row_key.RowKey.{RowKey}
use Rattle.issuer_rows.specs.declared.row_val.RowVal.{RowVal}
use Rattle.issuer_rows.proofs.book.Book.rows.Goals as goal

pub returns : goal.returns
returns c =
    rw (← c.self.view_is)
    (subst (λ (rows : List (RowKey × RowVal)). IsPermutation (map.entries (map.from_entries {R = key_cmp} c.self.inside.rows.entries)) rows) (sym c.iter.ensures.rest)
    (entries_shuffled c.self.inside.rows.entries c.iter.ensures.unique))
