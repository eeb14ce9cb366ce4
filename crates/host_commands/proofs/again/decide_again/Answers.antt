use Rattle.std.proofs.Common.{[], ◌∷◌, ◌++◌}
use Rattle.std.proofs.lemmas.Result.{err_from_is_err_and}
use Rattle.host_commands.proofs.Following.{messages_of_more}
use Rattle.host_commands.proofs.again.decide_again.Goals as goal

pub returns-in_err-bodies-clause-fault : goal.returns-in_err-bodies-clause-fault
returns-in_err-bodies-clause-fault g c digest bytes =
    let p = err_from_is_err_and c.from_residual.result c.from_residual.ensures.1 in
    rw (p.1, p.2) (λ begins of.
    let so_far = c.loop.invariant digest bytes begins.0 begins.1 in
    c.in_err-bodies.ensures.fault so_far.known digest bytes so_far.entries so_far.read of)

pub returns-in-End-clause-again : goal.returns-in-End-clause-again
returns-in-End-clause-again g c digest bytes known begins =
    let so_far = c.loop.invariant digest bytes known begins in
    let steps = rw c.in-End.is at (c.in_ok-bodies.ensures.read so_far.known digest bytes so_far.entries so_far.read) in
    record {
      entries = so_far.entries;
      tail = steps.0;
      is = steps.1;
      ends = steps.2;
      decided = so_far.decided;
    }

pub loop-preserved : goal.loop-preserved
loop-preserved g c digest bytes known begins =
    let so_far = c.loop.invariant digest bytes known begins in
    let steps = rw c.in-Entry.is at (c.in_ok-bodies.ensures.read so_far.known digest bytes so_far.entries so_far.read) in
    record {
      entries = so_far.entries ++ c.in-Entry.bodies ∷ [];
      read = steps;
      known = c.next.ensures.file.known so_far.known;
      decided = messages_of_more so_far.entries c.in-Entry.bodies c.args.decider.now c.loop.decider c.decide.new.self so_far.decided c.in_ok-decide-in-Entry.ensures.decided;
    }
