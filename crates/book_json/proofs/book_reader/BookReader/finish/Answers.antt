use Rattle.std.proofs.Common.{◌≡◌, subst, rules}
use Rattle.json.specs.Print.{print}
use Rattle.book_laws.specs.declared.row_list.RowList.{RowList}
use Rattle.book_laws.specs.declared.row_list.RowList.TheVariants.{Originals}
use Rattle.book_text.specs.Pieces.{last_tokens}
use Rattle.book_json.specs.ReadsOn.{ReadsOn}
use Rattle.book_json.proofs.ReadsOn.{ends}
use Rattle.book_json.proofs.book_reader.BookReader.finish.Goals as goal

pub returns : goal.returns
returns c bytes on =
    let s = c.enter.new.self in
    let list : s.list ≡ Originals = c.in_ok-enter.ensures.there (search rules) in
    let there : ReadsOn bytes s.rest.now s.list s.later s.book = c.in_ok-enter.ensures.on (search rules) bytes on in
    let is : s.rest.now ≡ print last_tokens = search rules in
    ends bytes s.rest.now s.later s.book is (subst (λ (l : RowList). ReadsOn bytes s.rest.now l s.later s.book) list there)
