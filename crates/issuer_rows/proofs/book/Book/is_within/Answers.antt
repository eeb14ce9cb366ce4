use Rattle.std.proofs.Common.{◌≡◌, rules}
use Rattle.issuer_rows.proofs.BookLaws.{within_rows}
use Rattle.issuer_rows.proofs.book.Book.is_within.Goals as goal

pub loop-key-init : goal.loop-key-init
loop-key-init c =
    let same : c.into_iter-key-iterator.result ≡ c.self.inside.rows.entries = search rules in
    rw (← c.self.view_is, same) (within_rows c.self.inside.rows.entries c.args.other.now c.iter-key-items.ensures.unique)
