use Rattle.std.proofs.Common.{◌∷◌, [], ◌++◌, ◌+◌, ℕ, List, refl, sym, ap, ◌∙◌, append_assoc}
use Rattle.std.proofs.lemmas.List.{length-append}
use Rattle.log_replay.proofs.Gathers.{joined, nothing}
use Rattle.log_replay.proofs.Reading.{both_are}
use Rattle.log_replay.proofs.gathering.Gathering.take_bodies.Goals as goal

pub loop-init : goal.loop-init
loop-init c = record {
  front = [];
  messages = [];
  count = refl;
  are = sym c.iter-left.ensures;
  spelled = tt;
  gathers = nothing _;
}

pub loop-preserved : goal.loop-preserved
loop-preserved c =
    let so_far = c.loop.invariant in
    let body = c.in-Some.body.now in
    let frame = c.frame_of-frame.result in
    record {
      front = so_far.front ++ body ∷ [];
      messages = so_far.messages ++ frame ∷ [];
      count = length-append so_far.front (body ∷ []) ∙ ap (λ (n : ℕ). n + 1) so_far.count;
      are = so_far.are ∙ ap (λ (x : List (List ℕ)). so_far.front ++ x) c.in-Some.ensures.steps ∙ sym (append_assoc so_far.front (body ∷ []) c.next.new.self);
      spelled = both_are so_far.front (body ∷ []) so_far.messages (frame ∷ []) so_far.spelled (c.frame_of-frame.ensures, tt);
      gathers = joined _ _ _ so_far.messages (frame ∷ []) so_far.gathers c.in_ok-take.ensures;
    }
