use Rattle.issuer_rows.proofs.BookLaws.{same_both_ways}
use Rattle.issuer_rows.proofs.book.Book.is_same.Goals as goal

pub returns-then-is_within : goal.returns-then-is_within
returns-then-is_within c =
    let both = same_both_ways c.args.self.now c.args.other.now in (
      λ back. both.0 (c.is_within.ensures.0 c.if-is_within.true, c.is_within-then-is_within.ensures.0 back),
      λ same. c.is_within-then-is_within.ensures.1 (both.1 same).1,
    )
