use Rattle.book_laws.proofs.WrittenTokens.{then}
use Rattle.book_text.proofs.writing.write_top.Goals as goal

pub returns : goal.returns
returns c =
    then c.in_ok-begin_object.ensures (then c.in_ok-write_list.ensures (then c.in_ok-write_list-2.ensures (then c.in_ok-write_list-3.ensures
    (then c.in_ok-write_list-4.ensures (then c.in_ok-write_list-5.ensures (then c.in_ok-write_list-6.ensures
    c.in_ok-end_book.ensures))))))
