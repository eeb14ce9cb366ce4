use Rattle.std.proofs.Common.{◌∙◌, ap, inr, sym, Err}
use Rattle.std.proofs.lemmas.Result.{err_from_is_err_and}
use Rattle.file_devices.specs.declared.write_fault.WriteFault.{WriteFault}
use Rattle.file_devices.proofs.Placing.{none_of_one, one_of_one, placed_one}
use Rattle.app_jobs.proofs.Faults.{unput_file}
use Rattle.app_reports.proofs.paging.put_page.Goals as goal

pub returns-clause-put : goal.returns-clause-put
returns-clause-put g c known =
    let text = c.in_ok-output.ensures.written known in
    let one = placed_one _ _ _ c.in_ok-page.page (rw c.in_ok-alone.ensures at (c.in_ok-put_in_place.ensures.placed known)) in
    let held = rw (c.in_ok-page.ensures.name, c.in_ok-page.ensures.output) at one in
    rw (← text.1) (held text.0)

pub returns-clause-others : goal.returns-clause-others
returns-clause-others g c other apart =
    c.in_ok-put_in_place.ensures.others other (rw c.in_ok-alone.ensures (none_of_one other c.in_ok-page.page (λ same. apart (sym same ∙ c.in_ok-page.ensures.name))))

pub returns-in_err-put_in_place-clause-fault : goal.returns-in_err-put_in_place-clause-fault
returns-in_err-put_in_place-clause-fault g c =
    let p = err_from_is_err_and c.from_residual-in_err-put_in_place.result c.from_residual-in_err-put_in_place.ensures.1 in
    rw (p.1, p.2) (unput_file _ c.in_err-put_in_place.field-0.0 (λ is. inr (rw c.in_ok-page.ensures.name at
    (one_of_one (g.F.Files.failing c.args.files.now).refused c.in_ok-page.page (rw c.in_ok-alone.ensures at (c.in_err-put_in_place.ensures.refused (ap (λ (e : WriteFault). Err e) is)))))))
