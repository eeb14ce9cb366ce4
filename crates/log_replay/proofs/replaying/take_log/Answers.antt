use Rattle.std.proofs.Common.{ℕ, List, ◌∷◌, [], ◌++◌, length, inr, sym, ap, subst, arith}
use Rattle.std.proofs.lemmas.List.{length-append}
use Rattle.std.proofs.lemmas.Result.{err_from_is_err_and}
use Rattle.file_laws.specs.Frames.{AreFramesOf}
use Rattle.log_replay.specs.Logged.{all_bodies}
use Rattle.log_replay.proofs.Reading.{both_are, no_more, not_replayed, one_size}
use Rattle.log_replay.proofs.Taking.{joined, nothing}
use Rattle.log_replay.proofs.replaying.take_log.Goals as goal
use Rattle.file_laws.proofs.Lists.{bodies_more}

pub loop-init : goal.loop-init
loop-init g c = record {
  way = record { entries = []; messages = []; spelled = tt; number = c.requires.none; takes = nothing _ _ _; read = λ digest bytes begins. begins };
  few = omega (arith, c.requires.none);
  counted = c.requires.counted;
  may = λ m. m;
  sink = record { may = λ m. m; known = λ k. k };
}

pub returns-in_err-bodies-clause-fault : goal.returns-in_err-bodies-clause-fault
returns-in_err-bodies-clause-fault g c digest bytes width =
    let p = err_from_is_err_and c.from_residual.result c.from_residual.ensures.1 in
    let inv = c.loop.invariant in
    rw (p.1, p.2) (not_replayed _ _ _ _ _ _ _ (λ failed. inv.may (c.in_err-bodies.ensures.file.fault failed)) (λ of_bytes begins.
    let so_far = inv.way.read digest bytes begins in
    c.in_err-bodies.ensures.fault so_far.0 digest bytes inv.way.entries so_far.1 of_bytes))

pub returns-then-len-messages-clause-fault : goal.returns-then-len-messages-clause-fault
returns-then-len-messages-clause-fault g c digest bytes width = inr (λ begins torn size.
    let way = c.loop.invariant.way in
    let bodies = c.in-Entry.bodies in
    let so_far = way.read digest bytes begins in
    let steps = rw c.in-Entry.is at (c.in_ok-bodies.ensures.read so_far.0 digest bytes way.entries so_far.1) in
    let most = no_more digest bytes (way.entries ++ bodies ∷ []) _ c.args.messages torn steps.stands size in
    omega (
      arith,
      most,
      c.if-len-messages.true,
      c.taken.ensures,
      c.len.ensures.count,
      way.number,
      c.loop.invariant.few,
      ap length (bodies_more way.entries bodies),
      length-append (all_bodies way.entries) bodies,
    ))

pub returns-then-taken-messages-clause-fault : goal.returns-then-taken-messages-clause-fault
returns-then-taken-messages-clause-fault g c digest bytes width = inr (λ begins torn size.
    let way = c.loop.invariant.way in
    let so_far = way.read digest bytes begins in
    let steps = rw c.in-End.is at (c.in_ok-bodies.ensures.read so_far.0 digest bytes way.entries so_far.1) in
    let same = one_size digest bytes way.entries steps.0 c.args.messages torn width steps.1 size in
    omega (arith, same, c.taken-in-End.ensures, c.if-taken-messages.true, way.number))

pub returns-in-End-clause-takes : goal.returns-in-End-clause-takes
returns-in-End-clause-takes g c =
    let way = c.loop.invariant.way in
    record {
      messages = way.messages;
      logged = λ digest bytes begins.
          let so_far = way.read digest bytes begins in
          let steps = rw c.in-End.is at (c.in_ok-bodies.ensures.read so_far.0 digest bytes way.entries so_far.1) in
          record { entries = way.entries; tail = steps.0; is = steps.1; spelled = way.spelled };
      takes = way.takes;
    }

pub loop-preserved : goal.loop-preserved
loop-preserved g c =
    let inv = c.loop.invariant in
    let way = inv.way in
    let bodies = c.in-Entry.bodies in
    let took = c.in_ok-take_bodies-in-Entry.ensures in
    let more = took.takes in
    record {
      way = record {
        entries = way.entries ++ bodies ∷ [];
        messages = way.messages ++ more.0;
        spelled = subst (λ (all : List (List ℕ)). AreFramesOf all (way.messages ++ more.0)) (sym (bodies_more way.entries bodies))
            (both_are (all_bodies way.entries) bodies way.messages more.0 way.spelled more.1);
        number = omega (arith, took.taken, way.number, ap length (bodies_more way.entries bodies), length-append (all_bodies way.entries) bodies);
        takes = joined _ _ _ way.messages more.0 _ _ _ _ _ inv.sink.known way.takes more.2;
        read = λ digest bytes begins.
            let so_far = way.read digest bytes begins in
            (c.next.ensures.file.known so_far.0, rw c.in-Entry.is at (c.in_ok-bodies.ensures.read so_far.0 digest bytes way.entries so_far.1));
      };
      few = omega (arith, took.taken, c.if-len-messages.false, c.taken.ensures, c.len.ensures.count, inv.few);
      counted = took.counted;
      may = λ m. inv.may (c.next.ensures.file.may m);
      sink = record { may = λ m. inv.sink.may (c.take_bodies.ensures.sink.may m); known = λ k. c.take_bodies.ensures.sink.known (inv.sink.known k) };
    }
