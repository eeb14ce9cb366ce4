use Rattle.std.proofs.Common.{List, sym, subst}
use Rattle.std.specs.List.{IsDistinct}
use Rattle.std.specs.Map.{keys_of}
use Rattle.issuer_rows.proofs.BookLaws.{kinds_sorted}
use Rattle.issuer_rows.specs.RowKey.{key_eq}
use Rattle.issuer_rows.specs.declared.row_key.RowKey.{RowKey}
use Rattle.issuer_rows.specs.declared.row_val.RowVal.{RowVal}
use Rattle.issuer_rows.proofs.book.Book.rows_sorted_by_threads.Goals as goal

pub by_threads-requires : goal.by_threads-requires
by_threads-requires g c = (c.type_bounds.sync-R, subst (λ (rows : List (RowKey × RowVal)). IsDistinct key_eq (keys_of rows)) (sym c.iter.ensures.rest) c.iter.ensures.unique)

pub returns-clause-rows : goal.returns-clause-rows
returns-clause-rows g c =
    rw (← c.self.view_is, ← c.iter.ensures.rest) c.by_threads.ensures

pub returns-clause-kinds : goal.returns-clause-kinds
returns-clause-kinds g c = rw (← c.self.view_is) (kinds_sorted c.self.inside.rows.entries c.iter.ensures.unique c.self.invariant)
