use Rattle.std.proofs.Common.{◌≡◌, ℕ, ◌+◌, ◌<◌, ◌++◌, ◌∷◌, [], List, Some, Vec, Global, drop, zip, get_or, sym, ap, ◌∙◌, length, arith, append_assoc, append-nil, length-append}
use Rattle.std.proofs.lemmas.Option.{slice_get-get_or}
use Rattle.issuer_words.specs.Words.{Frame}
use Rattle.issuer_laws.specs.Parts.{of_part}
use Rattle.engine_parts.proofs.OrderLaws.{zip_done}
use Rattle.engine_parts.proofs.QueueLaws.{some_at}
use Rattle.engine_parts.proofs.StepLaws.{mine_left, other_left}
use Rattle.engine_parts.proofs.gathering.gather.Goals.{then-owner-part+in_ok-push, else-owner-part}
use Rattle.engine_parts.proofs.gathering.gather.Goals as goal

pub loop-index-preserved : goal.loop-index-preserved
loop-index-preserved c =
    let parts = c.args.parts.now in
    let frames = c.args.frames.now in
    let part = c.args.part in
    let k = c.loop-index in
    let i = k.index in
    let rest = of_part part (drop (i + 1) (zip parts frames)) in
    let within : i < length parts = omega (arith, c.loop-index-test.true, c.requires) in
    let at = slice_get-get_or parts i 0 within in
    elim c.if-owner-part.branch [
      | then-owner-part+in_ok-push w ↦
          let f = w.index-frames-index.result in
          let here = slice_get-get_or frames i f c.loop-index-test.true ∙ ap Some (sym w.index-frames-index.is) in
          let items : c.if-owner-part.own.items ≡ k.own.items ++ f ∷ [] = ap (λ (own : Vec Frame Global). own.items) w.own-is ∙ w.in_ok-push.ensures.items in
          record {
            so_far = ap (λ (own : List Frame). own ++ rest) items ∙ append_assoc k.own.items (f ∷ []) rest
                ∙ ap (λ (left : List Frame). k.own.items ++ left) (sym (mine_left parts frames i (get_or parts i 0) part f at here w.if-owner-part.true))
                ∙ k.invariant.so_far;
            few = omega (arith, ap length items, length-append k.own.items (f ∷ []), k.invariant.few);
          }
      | else-owner-part w ↦
          let here = some_at frames i c.loop-index-test.true in
          let items : c.if-owner-part.own.items ≡ k.own.items = ap (λ (own : Vec Frame Global). own.items) w.own-is in
          record {
            so_far = ap (λ (own : List Frame). own ++ rest) items
                ∙ ap (λ (left : List Frame). k.own.items ++ left) (sym (other_left parts frames i (get_or parts i 0) part here.0 at here.1 w.if-owner-part.false))
                ∙ k.invariant.so_far;
            few = omega (arith, ap length items, k.invariant.few);
          }
    ]

pub returns-clause-own : goal.returns-clause-own
returns-clause-own c =
    let parts = c.args.parts.now in
    let frames = c.args.frames.now in
    let part = c.args.part in
    let k = c.loop-index in
    let done : k.index ≡ length frames = omega (arith, c.loop-index-test.false) in
    let none : of_part part (drop k.index (zip parts frames)) ≡ []
    = ap (λ (n : ℕ). of_part part (drop n (zip parts frames))) done ∙ ap (of_part part) (zip_done parts frames c.requires) in
    sym (append-nil k.own.items) ∙ ap (λ (rest : List Frame). k.own.items ++ rest) (sym none) ∙ k.invariant.so_far
