use Rattle.std.specs.List.{AllByRecursion}
use Rattle.issuer_rows.specs.Book.{AllOfKind}
use Rattle.book_laws.specs.Text.{IsReadAgain}
use Rattle.book_text.proofs.listed_rows.ListedRows.new.Given as goal

-- all rows are read again, once those that are left are
abbrev pub invariant-loop-key : goal.invariant-loop-key
invariant-loop-key l = record {
  read : AllByRecursion IsReadAgain l.key-iterator → AllByRecursion IsReadAgain l.initial.key-iterator;
  kinds : AllOfKind l.key-iterator;
}
