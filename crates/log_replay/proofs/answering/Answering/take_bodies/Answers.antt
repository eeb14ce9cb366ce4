use Rattle.std.proofs.Common.{◌∷◌, [], ◌++◌, ◌+◌, ℕ, List, refl, sym, ap, ◌∙◌, append_assoc, arith}
use Rattle.std.proofs.lemmas.List.{length-append}
use Rattle.log_replay.proofs.Reading.{both_are}
use Rattle.log_replay.proofs.Taking.{joined, nothing}
use Rattle.log_replay.proofs.answering.Answering.take_bodies.Goals as goal

pub loop-init : goal.loop-init
loop-init g c = record {
  taken = record {
    front = [];
    messages = [];
    count = refl;
    are = sym c.iter-left.ensures;
    spelled = tt;
    takes = nothing _ _ _;
    total = omega arith;
    counted = c.requires.counted;
  };
  sink = record { may = λ m. m; known = λ k. k };
}

pub loop-preserved : goal.loop-preserved
loop-preserved g c =
    let so_far = c.loop.invariant.taken in
    let sink = c.loop.invariant.sink in
    let body = c.in-Some.body.now in
    let frame = c.frame_of-frame.result in
    let taken = c.in_ok-take.ensures in
    record {
      taken = record {
        front = so_far.front ++ body ∷ [];
        messages = so_far.messages ++ frame ∷ [];
        count = length-append so_far.front (body ∷ []) ∙ ap (λ (n : ℕ). n + 1) so_far.count;
        are = so_far.are ∙ ap (λ (x : List (List ℕ)). so_far.front ++ x) c.in-Some.ensures.steps ∙ sym (append_assoc so_far.front (body ∷ []) c.next.new.self);
        spelled = both_are so_far.front (body ∷ []) so_far.messages (frame ∷ []) so_far.spelled (c.frame_of-frame.ensures, tt);
        takes = joined _ _ _ so_far.messages (frame ∷ []) _ _ _ _ _ sink.known so_far.takes taken.takes;
        total = omega (arith, taken.taken, so_far.total);
        counted = taken.counted;
      };
      sink = record { may = λ m. sink.may (c.take.ensures.sink.may m); known = λ k. c.take.ensures.sink.known (sink.known k) };
    }
