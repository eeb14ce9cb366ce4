use Rattle.std.proofs.Common.{◌≡◌, true, Some, Option, is_some, sym, ap, ◌∙◌}
use Rattle.std.specs.FinMap as map
use Rattle.issuer_words.specs.Words.{RowVal, Rows, account_in}
use Rattle.parts_books.proofs.Going.{passing, put_here}
use Rattle.parts_books.specs.PartBooks.{has_account_at}
use Rattle.parts_books.proofs.making_parts.put_account.Goals as goal

pub returns : goal.returns
returns c q =
    let book = c.args.book.now in
    let key = c.args.key.now in
    let val = c.in-Some.val.now in
    let other = c.args.other.now in
    let at : map.get book key ≡ Some val = sym c.in-Some.ensures.value in
    let account : has_account_at book key ≡ true = ap (λ (o : Option RowVal). is_some (account_in o)) at ∙ sym c.if-not-is_account.ensures in
    ap (λ (rows : Rows). map.get rows q) c.in_ok-put_copy.ensures.ok
    ∙ passing (has_account_at book) key (map.get book) other (map.insert other key val) account (put_here other book key val at) q
