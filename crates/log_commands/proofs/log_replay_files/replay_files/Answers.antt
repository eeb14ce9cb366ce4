use Rattle.std.proofs.Common.{inr, refl, ap, Err}
use Rattle.std.proofs.lemmas.Result.{err_from_is_err_and}
use Rattle.log_file.specs.declared.open_fault.OpenFault.{OpenFault}
use Rattle.log_commands.specs.Names.{names_of}
use Rattle.log_commands.proofs.Faults.{unanswered, unopened}
use Rattle.log_commands.proofs.Placed.{not_put, put, refused}
use Rattle.log_commands.proofs.log_replay_files.replay_files.Goals as goal

pub returns-in_err-log : goal.returns-in_err-log
returns-in_err-log g c =
    let p = err_from_is_err_and c.from_residual-in_err-log.result c.from_residual-in_err-log.ensures.1 in
    let opened = c.in_err-log.ensures in
    record {
      replays = rw (p.1, p.2) (refused g.F.Files.is_known g.F.Files.holds g.F.Files.failing
          (g.L.LockedLogs.holds c.args.logs.now) (g.L.LockedLogs.reading c.args.logs.now) (g.L.LockedLogs.in_use c.args.logs.now) c.args.files.now (names_of c.args.names.now) _
          (inr (inr (unopened (g.L.LockedLogs.holds c.args.logs.now) (g.L.LockedLogs.reading c.args.logs.now) (g.L.LockedLogs.in_use c.args.logs.now)
          (g.F.Files.holds c.args.files.now) (g.F.Files.failing c.args.files.now) (names_of c.args.names.now) c.in_ok-book.book c.in_err-log.field-0.0 c.in_ok-book.ensures.book
          (λ used. opened.in_use (ap (λ (e : OpenFault). Err e) used)) (λ gone. opened.absent (ap (λ (e : OpenFault). Err e) gone))))));
    }

pub returns-in_err-answer : goal.returns-in_err-answer
returns-in_err-answer g c =
    let p = err_from_is_err_and c.from_residual-in_err-answer.result c.from_residual-in_err-answer.ensures.1 in
    record {
      replays = rw (p.1, p.2) (refused g.F.Files.is_known g.F.Files.holds g.F.Files.failing
          (g.L.LockedLogs.holds c.args.logs.now) (g.L.LockedLogs.reading c.args.logs.now) (g.L.LockedLogs.in_use c.args.logs.now) c.args.files.now (names_of c.args.names.now) _
          (inr (inr (unanswered (g.L.LockedLogs.holds c.args.logs.now) (g.L.LockedLogs.reading c.args.logs.now) (g.L.LockedLogs.in_use c.args.logs.now)
          (g.F.Files.holds c.args.files.now) (g.F.Files.failing c.args.files.now) (names_of c.args.names.now) c.in_ok-book.book
          (g.L.Log.LockedLog.is_known c.in_ok-log.log) (g.L.Log.LockedLog.may_fail c.in_ok-log.log) (g.L.Log.LockedLog.bytes c.in_ok-log.log) c.in_err-answer.field-0.0
          c.in_ok-book.ensures.book c.in_ok-log.ensures.log c.in_ok-log.ensures.device c.in_err-answer.ensures.fault))));
    }

pub returns-in_err-put_answer : goal.returns-in_err-put_answer
returns-in_err-put_answer g c =
    let p = err_from_is_err_and c.from_residual-in_err-put_answer.result c.from_residual-in_err-put_answer.ensures.1 in
    record {
      replays = rw (p.1, p.2) (not_put g.F.Files.is_known g.F.Files.holds g.F.Files.failing
          (g.L.LockedLogs.holds c.args.logs.now) (g.L.LockedLogs.reading c.args.logs.now) (g.L.LockedLogs.in_use c.args.logs.now) c.args.files.now c.put_answer.new.files (names_of c.args.names.now)
          c.in_ok-book.book _ _ c.in_err-put_answer.field-0.0 c.in_ok-book.ensures.book c.in_err-put_answer.ensures.puts);
    }

pub returns : goal.returns
returns g c =
    record {
      replays = put g.F.Files.is_known g.F.Files.holds g.F.Files.failing
          (g.L.LockedLogs.holds c.args.logs.now) (g.L.LockedLogs.reading c.args.logs.now) (g.L.LockedLogs.in_use c.args.logs.now)
          g.F.Output.Sink.is_known g.F.Output.Sink.written c.args.files.now c.put_answer.new.files (names_of c.args.names.now) c.in_ok-book.book
          (g.L.Log.LockedLog.is_known c.in_ok-log.log) (g.L.Log.LockedLog.bytes c.in_ok-log.log) c.in_ok-answer.answer _ refl (λ known. (c.in_ok-check_names.ensures.apart known).0)
          c.in_ok-book.ensures.there c.in_ok-book.ensures.book c.in_ok-log.ensures.log c.in_ok-answer.ensures.answered c.in_ok-put_answer.ensures.puts;
    }
