use Rattle.std.proofs.Common.{◌∷◌, [], ◌++◌, ◌+◌, ℕ, List, sym, ap, ◌∙◌, append_assoc}
use Rattle.std.proofs.lemmas.List.{length-append}
use Rattle.host_serving.proofs.Takes.{both_are}
use Rattle.host_serving.proofs.decoding.read_frames.Goals as goal

pub loop-preserved : goal.loop-preserved
loop-preserved c =
    let so_far = c.loop.invariant in
    let body = c.in-Some.body.now in
    let pushed = c.in_ok-push_frame.ensures in (
      so_far.0 ++ body ∷ [],
      length-append so_far.0 (body ∷ []) ∙ ap (λ (n : ℕ). n + 1) so_far.1,
      so_far.2 ∙ ap (λ (x : List (List ℕ)). so_far.0 ++ x) c.in-Some.ensures.steps ∙ sym (append_assoc so_far.0 (body ∷ []) c.next.new.self),
      rw pushed.2 (both_are so_far.0 (body ∷ []) c.loop.frames.items (pushed.0 ∷ []) so_far.3 (pushed.1, tt)),
    )
