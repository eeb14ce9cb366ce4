use Rattle.std.proofs.Common.{inl, inr}
use Rattle.std.proofs.lemmas.Result.{err_from_is_err_and}
use Rattle.file_devices.specs.BatchNames.{names_of}
use Rattle.app_jobs.specs.declared.job_fault.JobFault.TheVariants.{Journal}
use Rattle.app_jobs.proofs.Audits.{behind_four, of_four}
use Rattle.app_jobs.proofs.JournalFaults.{unplayed}
use Rattle.app_jobs.proofs.auditing.audit_batch_with_journal.Goals as goal

pub returns-in_err-run-clause-fault : goal.returns-in_err-run-clause-fault
returns-in_err-run-clause-fault g c =
    let p = err_from_is_err_and c.from_residual.result c.from_residual.ensures.1 in
    rw (p.1, p.2) (of_four (g.F.Files.holds c.args.files.now) (g.F.Files.failing c.args.files.now) (names_of c.args.names.now)
    _ c.in_err-run.field-0.0 c.in_err-run.ensures.fault)

pub returns-in_err-entries-clause-fault : goal.returns-in_err-entries-clause-fault
returns-in_err-entries-clause-fault g c =
    let p = err_from_is_err_and c.from_residual-in_err-entries.result c.from_residual-in_err-entries.ensures.1 in
    rw (p.1, p.2) (behind_four (g.F.Files.is_known c.args.files.now) (g.F.Files.holds c.args.files.now) (g.F.Files.failing c.args.files.now) (names_of c.args.names.now)
    c.in_ok-run.run'.book c.in_ok-run.run'.frames.items c.in_ok-run.run'.replies.items c.in_ok-run.run'.after _ c.in_err-entries.field-0.0
    c.in_ok-run.ensures.held (inl c.in_err-entries.ensures.fault))

pub returns-in-Ok-clause-audited : goal.returns-in-Ok-clause-audited
returns-in-Ok-clause-audited g c = record {
  rows = c.in_ok-run.run'.book;
  frames = c.in_ok-run.run'.frames.items;
  answers = c.in_ok-run.run'.replies.items;
  rows_after_it = c.in_ok-run.run'.after;
  entries = c.in_ok-entries.entries.items;
  held = c.in_ok-run.ensures.held;
  are = c.in_ok-entries.ensures.are;
  journal_there = λ k. c.in_ok-entries.ensures.there k;
  logged = λ bytes h. c.in_ok-entries.ensures.entries bytes h;
  finds = rw (c.deref.ensures.value, c.deref-2.ensures.value, c.deref-3.ensures.value) at c.in-Ok.ensures.finds;
}

pub returns-clause-fault : goal.returns-clause-fault
returns-clause-fault g c =
    let run = c.in_ok-run.run' in
    let held = c.in_ok-run.ensures.held in
    let unlogged = rw (c.deref.ensures.value, c.deref-2.ensures.value) at c.in-Err.ensures.unlogged in
    behind_four (g.F.Files.is_known c.args.files.now) (g.F.Files.holds c.args.files.now) (g.F.Files.failing c.args.files.now) (names_of c.args.names.now)
    run.book run.frames.items run.replies.items run.after _ (Journal c.in-Err.fault) held
    (inr (unplayed (g.F.Files.holds c.args.files.now) (names_of c.args.names.now) c.args.journal.now
    run.book run.frames.items c.in_ok-entries.entries.items c.in-Err.fault held.decided.opening held.decided.messages c.in_ok-entries.ensures.are c.in_ok-entries.ensures.entries
    unlogged c.in-Err.ensures.lines))
