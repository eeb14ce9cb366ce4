use Rattle.std.proofs.Common.{sym, ◌∙◌}
use Rattle.book_json.proofs.ReadsOn.{leaves}
use Rattle.book_json.proofs.book_reader.BookReader.leave.Goals as goal

pub returns : goal.returns
returns c is_left bytes on =
    let s = c.args.self.now in
    leaves bytes s.rest.now c.deref.result.now c.in-Some-behind.rest.now s.list c.in-Some.next s.later s.book
    (sym c.list_behind.ensures ∙ c.in-Some.is) c.in-Some-behind.ensures (c.deref.ensures.value ∙ c.in_ok-between.ensures) on
