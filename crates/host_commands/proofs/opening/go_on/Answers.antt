use Rattle.std.proofs.Common.{[], inr, refl}
use Rattle.std.proofs.lemmas.Result.{err_from_is_err_and}
use Rattle.host_commands.proofs.Following.{goes_on, not_of_bytes}
use Rattle.host_commands.proofs.opening.go_on.Goals as goal

pub returns-in_err-log-clause-fault : goal.returns-in_err-log-clause-fault
returns-in_err-log-clause-fault g c =
    let p = err_from_is_err_and c.from_residual-in_err-log.result c.from_residual-in_err-log.ensures.1 in
    rw (p.1, p.2) (not_of_bytes _ _ _ _ c.in_err-log.ensures.fault)

pub returns-in-New-clause-gone_on : goal.returns-in-New-clause-gone_on
returns-in-New-clause-gone_on g c known =
    let begun = rw (c.in-New.is, c.in_ok-digest.ensures) at c.in_ok-log.ensures.begun in
    record {
      entries = [];
      messages = [];
      held = inr ((begun.1 known).0, refl);
      stands = record {
        read = tt;
        log = rw c.new.ensures.log ((begun.1 known).1);
        book = rw (c.new.ensures.decider, c.new-decider.ensures.book) refl;
      };
    }

pub returns-in-Old-clause-gone_on : goal.returns-in-Old-clause-gone_on
returns-in-Old-clause-gone_on g c known =
    let begun = rw c.in-Old.is at c.in_ok-log.ensures.begun in
    let resumed = rw (c.in_ok-digest.ensures, begun.0) at c.resumed.ensures.resumed in
    goes_on _ _ _ c.args.book _ c.new-decider.result c.resumed.result c.new-decider.ensures.book (resumed known)

pub returns-in-Old-clause-fault : goal.returns-in-Old-clause-fault
returns-in-Old-clause-fault g c =
    let begun = rw c.in-Old.is at c.in_ok-log.ensures.begun in
    rw (c.in_ok-digest.ensures, begun.0) at c.resumed.ensures.fault
