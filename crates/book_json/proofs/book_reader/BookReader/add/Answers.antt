use Rattle.std.proofs.Common.{◌≡◌, Bool, List, sym, subst, rules}
use Rattle.book_laws.specs.declared.row_list.RowList.{RowList}
use Rattle.book_json.specs.ReadsOn.{ReadsOn, TakesRows, pairs_of}
use Rattle.book_json.specs.declared.row.Row.{Row}
use Rattle.book_json.proofs.ReadsOn.{goes_on}
use Rattle.book_json.proofs.book_reader.BookReader.add.Goals as goal

pub returns : goal.returns
returns c is_added bytes on =
    let s = c.enter.new.self in
    let share = c.args.share.now in
    let list : s.list ≡ share.list = c.in_ok-enter.ensures.there (search rules) in
    let later : s.later ≡ share.later = search rules in
    let there : ReadsOn bytes s.rest.now s.list s.later s.book = c.in_ok-enter.ensures.on (search rules) bytes on in
    let before : ReadsOn bytes s.rest.now share.list share.later s.book
    = subst (λ (l : RowList). ReadsOn bytes s.rest.now l share.later s.book) list (subst (λ (b : Bool). ReadsOn bytes s.rest.now s.list b s.book) later there) in
    let takes : TakesRows (pairs_of share.rows.items) s.book c.put_rows.new.book
    = subst (λ (rows : List Row). TakesRows (pairs_of rows) s.book c.put_rows.new.book) c.deref.ensures.value (c.in_ok-put_rows.ensures (search rules)) in
    subst (λ (l : RowList). ReadsOn bytes c.in-Some.rest.now l share.goes_on c.put_rows.new.book) (sym list)
    (goes_on bytes s.rest.now share.text.now c.in-Some.rest.now share.list share.later share.goes_on (pairs_of share.rows.items) s.book c.put_rows.new.book
    c.in-Some.ensures share.made share.ends share.all takes before)
