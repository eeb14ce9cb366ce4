use Rattle.std.proofs.Common.{◌++◌}
use Rattle.std.proofs.lemmas.Result.{err_from_is_err_and}
use Rattle.host_commands.proofs.Following.{known_more, not_of_bytes}
use Rattle.host_commands.proofs.opening.resumed.Goals as goal

pub returns-in_err-end-clause-fault : goal.returns-in_err-end-clause-fault
returns-in_err-end-clause-fault g c =
    let p = err_from_is_err_and c.from_residual-in_err-end.result c.from_residual-in_err-end.ensures.1 in
    let bytes = g.G.GrowingFile.synced c.args.file ++ g.G.GrowingFile.unsynced c.args.file in
    let knows = rw c.new.ensures.file at c.in_ok-reader.ensures.known in
    let reads = rw (c.new.ensures.file, c.new.ensures.at) at c.in_ok-reader.ensures.read in
    rw (p.1, p.2) (known_more _ _ c.args.digest.now bytes _ (λ known. (knows known, reads known)) (c.in_err-end.ensures.fault c.args.digest.now bytes))

pub resume-requires : goal.resume-requires
resume-requires g c = record {
  end = λ known.
      let bytes = g.G.GrowingFile.synced c.args.file ++ g.G.GrowingFile.unsynced c.args.file in
      let knows = rw c.new.ensures.file at c.in_ok-reader.ensures.known in
      let reads = rw (c.new.ensures.file, c.new.ensures.at) at c.in_ok-reader.ensures.read in
      let again = c.in_ok-end.ensures.again c.args.digest.now bytes (knows known) (reads known) in
      (c.args.digest.now, again.entries, again.tail, again.is, again.ends);
}

pub returns-in_err-log-clause-fault : goal.returns-in_err-log-clause-fault
returns-in_err-log-clause-fault g c =
    let p = err_from_is_err_and c.from_residual-in_err-log.result c.from_residual-in_err-log.ensures.1 in
    rw (p.1, p.2) (not_of_bytes _ _ _ _ c.in_err-log.ensures.fault)

pub returns-clause-resumed : goal.returns-clause-resumed
returns-clause-resumed g c known =
    let bytes = g.G.GrowingFile.synced c.args.file ++ g.G.GrowingFile.unsynced c.args.file in
    let knows = rw c.new.ensures.file at c.in_ok-reader.ensures.known in
    let reads = rw (c.new.ensures.file, c.new.ensures.at) at c.in_ok-reader.ensures.read in
    let again = c.in_ok-end.ensures.again c.args.digest.now bytes (knows known) (reads known) in
    record {
      entries = again.entries;
      tail = again.tail;
      is = again.is;
      log = rw c.new-2.ensures.log (c.in_ok-log.ensures.ok c.args.digest.now again.entries again.tail known again.is again.ends);
      decided = rw c.new-2.ensures.decider again.decided;
    }
