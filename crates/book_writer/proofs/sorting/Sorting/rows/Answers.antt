use Rattle.std.proofs.Common.{subst, sym}
use Rattle.issuer_rows.specs.Book.{AllOfKind}
use Rattle.book_text.specs.ByKind.{StandByKind}
use Rattle.book_text.proofs.ByKind.{book_stands}
use Rattle.book_writer.proofs.sorting.Sorting.rows.Goals as goal

pub returns-clause-by_kind : goal.returns-clause-by_kind
returns-clause-by_kind g c =
    let sorting = c.args.self.now in
    subst StandByKind sorting.of (book_stands sorting.book.now (subst AllOfKind (sym sorting.of) c.rows.ensures.kinds))
