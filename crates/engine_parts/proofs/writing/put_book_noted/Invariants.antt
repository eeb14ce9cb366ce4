use Rattle.std.proofs.Common.{◌≡◌, Some}
use Rattle.std.specs.FinMap as map
use Rattle.std.specs.List.{AllByRecursion}
use Rattle.issuer_fold.specs.Formers.{LeadsBack}
use Rattle.issuer_words.specs.Words.{Rows, overlay}
use Rattle.engine_parts.specs.TwoBooks.{joined}
use Rattle.engine_parts.proofs.writing.put_book_noted.Given as goal

-- the rows that the iterator has yet are left, and are there
abbrev pub invariant-loop-key : goal.invariant-loop-key
invariant-loop-key l = record {
  left : overlay l.book l.key-iterator ≡ joined l.fn.book l.written;
  there : AllByRecursion (λ row. map.get l.written row.0 ≡ Some row.1) l.key-iterator;
  back : (earlier : Rows) → LeadsBack l.fn.book l.fn.formers earlier → LeadsBack l.book l.formers earlier;
}
