use Rattle.std.proofs.Common.{ℕ, List, Ok, Err, subst}
use Rattle.std.proofs.lemmas.Result.{err_from_is_err_and}
use Rattle.book_laws.specs.Reading.{IsAnswer, reading}
use Rattle.app_parts.proofs.FaultsOf.{held_book, unread_book}
use Rattle.app_parts.proofs.parting.open_held.Goals as goal

pub returns-in_err-text-clause-fault : goal.returns-in_err-text-clause-fault
returns-in_err-text-clause-fault g c =
    let p = err_from_is_err_and c.from_residual.result c.from_residual.ensures.1 in
    rw (p.1, p.2) (unread_book (g.F.Files.holds c.args.files.now) (g.F.Files.failing c.args.files.now) c.args.name.now c.in_err-text.field-0.0 c.in_err-text.ensures.fault)

pub returns-in-Ok-clause-book : goal.returns-in-Ok-clause-book
returns-in-Ok-clause-book g c =
    (c.in_ok-text.text.items, c.in_ok-text.ensures.held, subst (λ (bytes : List ℕ). IsAnswer (reading bytes) (Ok c.in-Ok.book)) c.deref.ensures.value c.in-Ok.ensures)

pub returns-clause-fault : goal.returns-clause-fault
returns-clause-fault g c =
    held_book (g.F.Files.is_known c.args.files.now) (g.F.Files.holds c.args.files.now) (g.F.Files.failing c.args.files.now) c.args.name.now c.in_ok-text.text.items c.in-Err.fault
    c.in_ok-text.ensures.held (subst (λ (bytes : List ℕ). IsAnswer (reading bytes) (Err c.in-Err.fault)) c.deref.ensures.value c.in-Err.ensures)
