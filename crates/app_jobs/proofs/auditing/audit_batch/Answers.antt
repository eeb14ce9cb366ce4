use Rattle.std.proofs.lemmas.Result.{IfErr-weaker, IfOk-weaker, err_from_is_err_and}
use Rattle.file_devices.specs.BatchNames.{names_of}
use Rattle.app_jobs.proofs.Audits.{behind_four, of_four}
use Rattle.app_jobs.proofs.auditing.audit_batch.Goals as goal

pub returns-in_err-run-clause-fault : goal.returns-in_err-run-clause-fault
returns-in_err-run-clause-fault g c =
    let p = err_from_is_err_and c.from_residual.result c.from_residual.ensures.1 in
    rw (p.1, p.2) (of_four (g.F.Files.holds c.args.files.now) (g.F.Files.failing c.args.files.now) (names_of c.args.names.now)
    _ c.in_err-run.field-0.0 c.in_err-run.ensures.fault)

pub returns-clause-audited : goal.returns-clause-audited
returns-clause-audited g c = IfOk-weaker c.audit_run.result _ _ (λ found finds. record {
  rows = c.in_ok-run.run'.book;
  frames = c.in_ok-run.run'.frames.items;
  answers = c.in_ok-run.run'.replies.items;
  rows_after_it = c.in_ok-run.run'.after;
  held = c.in_ok-run.ensures.held;
  finds = finds;
}) c.audit_run.ensures.finds

pub returns-clause-fault : goal.returns-clause-fault
returns-clause-fault g c =
    let run = c.in_ok-run.run' in
    IfErr-weaker c.audit_run.result _ _ (λ fault none. behind_four (g.F.Files.is_known c.args.files.now) (g.F.Files.holds c.args.files.now) (g.F.Files.failing c.args.files.now) (names_of c.args.names.now)
    run.book run.frames.items run.replies.items run.after _ fault c.in_ok-run.ensures.held none) c.audit_run.ensures.fault
