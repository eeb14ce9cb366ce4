use Rattle.std.proofs.lemmas.Result.{err_from_is_err_and}
use Rattle.host_commands.proofs.Following.{log_fault, not_opened, opened_on}
use Rattle.host_commands.proofs.opening.open_host.Goals as goal

pub returns-in_err-file-clause-fault : goal.returns-in_err-file-clause-fault
returns-in_err-file-clause-fault g c text bytes held =
    let p = err_from_is_err_and c.from_residual-in_err-file.result c.from_residual-in_err-file.ensures.1 in
    let read = rw (c.deref.ensures.value, c.in_ok-text.ensures.read text held) at c.in_ok-book.ensures in
    rw (p.1, p.2) (not_opened _ text _ bytes c.in_ok-book.book _ read.0)

pub returns-clause-opened : goal.returns-clause-opened
returns-clause-opened g c text bytes held logged =
    let read = rw (c.deref.ensures.value, c.in_ok-text.ensures.read text held) at c.in_ok-book.ensures in
    opened_on _ _ _ text bytes c.in_ok-book.book c.in_ok-file.file c.go_on.result read.0 (c.in_ok-file.ensures bytes logged) c.go_on.ensures.gone_on

pub returns-clause-fault : goal.returns-clause-fault
returns-clause-fault g c text bytes held =
    let read = rw (c.deref.ensures.value, c.in_ok-text.ensures.read text held) at c.in_ok-book.ensures in
    log_fault _ text _ bytes c.in_ok-book.book _ _ c.go_on.result read.0 (c.in_ok-file.ensures bytes) c.go_on.ensures.fault
