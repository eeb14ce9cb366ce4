use Rattle.std.proofs.Common.{ℕ, List, ◌∷◌, [], ◌++◌, length, refl, inr, sym, ap, subst, arith}
use Rattle.std.proofs.lemmas.List.{length-append}
use Rattle.std.proofs.lemmas.Result.{err_from_is_err_and}
use Rattle.file_laws.specs.Frames.{AreFramesOf}
use Rattle.log_replay.specs.Logged.{all_bodies}
use Rattle.file_laws.proofs.FrameLaws.{as_many}
use Rattle.log_replay.proofs.Gathers.{joined, nothing}
use Rattle.log_replay.proofs.Reading.{both_are, no_more, not_replayed, one_size}
use Rattle.log_replay.proofs.log_blocks.gather_log.Goals as goal
use Rattle.file_laws.proofs.Lists.{bodies_more}

pub loop-init : goal.loop-init
loop-init g c = record {
  way = record { entries = []; messages = []; spelled = tt; count = refl; gathers = nothing _; read = λ digest bytes begins. begins };
  few = omega arith;
  may = λ m. m;
}

pub returns-in_err-bodies-clause-fault : goal.returns-in_err-bodies-clause-fault
returns-in_err-bodies-clause-fault g c digest bytes width =
    let p = err_from_is_err_and c.from_residual.result c.from_residual.ensures.1 in
    let inv = c.loop.invariant in
    rw (p.1, p.2) (not_replayed _ _ _ _ _ _ _ (λ failed. inv.may (c.in_err-bodies.ensures.file.fault failed)) (λ of_bytes begins.
    let so_far = inv.way.read digest bytes begins in
    c.in_err-bodies.ensures.fault so_far.0 digest bytes inv.way.entries so_far.1 of_bytes))

pub returns-then-count-messages-clause-fault : goal.returns-then-count-messages-clause-fault
returns-then-count-messages-clause-fault g c digest bytes width = inr (λ begins torn size.
    let way = c.loop.invariant.way in
    let bodies = c.in-Entry.bodies in
    let so_far = way.read digest bytes begins in
    let steps = rw c.in-Entry.is at (c.in_ok-bodies.ensures.read so_far.0 digest bytes way.entries so_far.1) in
    let most = no_more digest bytes (way.entries ++ bodies ∷ []) _ c.args.messages torn steps.stands size in
    omega (
      arith,
      most,
      c.if-count-messages.true,
      c.len-count.ensures.count,
      way.count,
      c.loop.invariant.few,
      ap length (bodies_more way.entries bodies),
      length-append (all_bodies way.entries) bodies,
    ))

pub returns-then-taken-messages-clause-fault : goal.returns-then-taken-messages-clause-fault
returns-then-taken-messages-clause-fault g c digest bytes width = inr (λ begins torn size.
    let way = c.loop.invariant.way in
    let so_far = way.read digest bytes begins in
    let steps = rw c.in-End.is at (c.in_ok-bodies.ensures.read so_far.0 digest bytes way.entries so_far.1) in
    let same = one_size digest bytes way.entries steps.0 c.args.messages torn width steps.1 size in
    omega (arith, same, c.if-taken-messages.true, way.count))

pub returns-in-End-clause-gathers : goal.returns-in-End-clause-gathers
returns-in-End-clause-gathers g c =
    let way = c.loop.invariant.way in
    record {
      messages = way.messages;
      count = omega (arith, as_many (all_bodies way.entries) way.messages way.spelled, way.count, c.if-taken-messages.false, c.loop.invariant.few);
      logged = λ digest bytes begins.
          let so_far = way.read digest bytes begins in
          let steps = rw c.in-End.is at (c.in_ok-bodies.ensures.read so_far.0 digest bytes way.entries so_far.1) in
          record { entries = way.entries; tail = steps.0; is = steps.1; spelled = way.spelled };
      gathers = way.gathers;
    }

pub loop-preserved : goal.loop-preserved
loop-preserved g c =
    let inv = c.loop.invariant in
    let way = inv.way in
    let bodies = c.in-Entry.bodies in
    let more = c.in_ok-take_bodies-in-Entry.ensures in
    record {
      way = record {
        entries = way.entries ++ bodies ∷ [];
        messages = way.messages ++ more.0;
        spelled = subst (λ (all : List (List ℕ)). AreFramesOf all (way.messages ++ more.0)) (sym (bodies_more way.entries bodies))
            (both_are (all_bodies way.entries) bodies way.messages more.0 way.spelled more.1);
        count = omega (arith, c.len-count.ensures.count, way.count, ap length (bodies_more way.entries bodies), length-append (all_bodies way.entries) bodies);
        gathers = joined _ _ _ way.messages more.0 way.gathers more.2;
        read = λ digest bytes begins.
            let so_far = way.read digest bytes begins in
            (c.next.ensures.file.known so_far.0, rw c.in-Entry.is at (c.in_ok-bodies.ensures.read so_far.0 digest bytes way.entries so_far.1));
      };
      few = omega (arith, c.if-count-messages.false, inv.few);
      may = λ m. inv.may (c.next.ensures.file.may m);
    }
