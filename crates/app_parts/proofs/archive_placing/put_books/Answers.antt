use Rattle.std.proofs.Common.{◌∙◌, ap, sym, Err}
use Rattle.std.proofs.lemmas.Result.{err_from_is_err_and}
use Rattle.file_devices.specs.declared.write_fault.WriteFault.{WriteFault}
use Rattle.file_devices.proofs.Placing.{none_of_two, one_of_two, placed_two}
use Rattle.app_jobs.proofs.Faults.{unput_file}
use Rattle.app_parts.proofs.archive_placing.put_books.Goals as goal

pub returns-clause-new_book : goal.returns-clause-new_book
returns-clause-new_book g c known out =
    let two = placed_two _ _ _ c.in_ok-old.old c.in_ok-new_book.new_book (rw c.in_ok-books.ensures at (c.in_ok-put_in_place.ensures.placed known)) in
    let one = rw (c.in_ok-new_book.ensures.name, c.in_ok-new_book.ensures.output) at two.1 in
    one out

pub returns-clause-old : goal.returns-clause-old
returns-clause-old g c known apart out =
    let two = placed_two _ _ _ c.in_ok-old.old c.in_ok-new_book.new_book (rw c.in_ok-books.ensures at (c.in_ok-put_in_place.ensures.placed known)) in
    let one = rw (c.in_ok-old.ensures.name, c.in_ok-old.ensures.output, c.in_ok-new_book.ensures.name) at two.0 in
    one out apart

pub returns-clause-others : goal.returns-clause-others
returns-clause-others g c other apart further =
    c.in_ok-put_in_place.ensures.others other
    (rw c.in_ok-books.ensures
    (none_of_two other c.in_ok-old.old c.in_ok-new_book.new_book (λ same. further (sym same ∙ c.in_ok-old.ensures.name)) (λ same. apart (sym same ∙ c.in_ok-new_book.ensures.name))))

pub returns-in_err-put_in_place-clause-fault : goal.returns-in_err-put_in_place-clause-fault
returns-in_err-put_in_place-clause-fault g c =
    let p = err_from_is_err_and c.from_residual-in_err-put_in_place.result c.from_residual-in_err-put_in_place.ensures.1 in
    rw (p.1, p.2) (unput_file _ c.in_err-put_in_place.field-0.0 (λ is. rw (c.in_ok-old.ensures.name, c.in_ok-new_book.ensures.name) at
    (one_of_two (g.F.Files.failing c.args.files.now).refused c.in_ok-old.old c.in_ok-new_book.new_book
    (rw c.in_ok-books.ensures at (c.in_err-put_in_place.ensures.refused (ap (λ (e : WriteFault). Err e) is))))))
