use Rattle.std.proofs.Common.{Bool, not, ◌&&◌, cond, Option, sym, ap, ◌∙◌}
use Rattle.std.specs.FinMap as map
use Rattle.issuer_words.specs.Words.{RowVal, Rows, account_in, key_eq}
use Rattle.parts_books.specs.PartBooks.{is_same_account_row}
use Rattle.parts_books.proofs.Going.{put_here}
use Rattle.parts_books.proofs.joining_books.put_own_row.Goals as goal

pub returns : goal.returns
returns c q =
    let rest = c.args.rest.now in
    let book = c.args.book.now in
    let key = c.args.key.now in
    let whole = c.args.whole.now in
    let other = sym c.if-stands_so.false ∙ c.stands_so.ensures ∙ ap (λ (o : Option RowVal). is_same_account_row (account_in (map.get rest key)) (account_in o)) (sym c.requires) in
    ap (λ (rows : Rows). map.get rows q) c.in_ok-put_row.ensures ∙ put_here whole book key c.args.val.now c.requires q
    ∙ ap (λ (b : Bool). cond (not b && key_eq q key) (map.get book q) (map.get whole q)) other
