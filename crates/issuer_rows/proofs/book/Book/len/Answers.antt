use Rattle.std.proofs.Common.{◌∙◌}
use Rattle.issuer_rows.proofs.BookLaws.{len_seen}
use Rattle.issuer_rows.proofs.book.Book.len.Goals as goal

pub returns : goal.returns
returns c = rw (← c.self.view_is) (c.len.ensures.len ∙ len_seen c.self.inside.rows.entries c.len.ensures.unique)
