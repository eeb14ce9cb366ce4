use Rattle.std.proofs.Common.{◌≡◌, ◌+◌, ◌<◌, ◌++◌, ◌∷◌, [], ℕ, List, Some, Vec, Global, drop, zip, get_or, length, sym, ap, ◌∙◌, arith, append_assoc, append-nil}
use Rattle.std.proofs.lemmas.Option.{slice_get-get_or}
use Rattle.engine_parts.proofs.OrderLaws.{zip_done}
use Rattle.engine_parts.proofs.QueueLaws.{some_at}
use Rattle.engine_parts.proofs.StepLaws.{mine_left, other_left}
use Rattle.issuer_laws.specs.Parts.{of_part}
use Rattle.issuer_rows.specs.declared.frame.Frame.{Frame}
use Rattle.parts_books.proofs.making_parts.messages_of.Goals.{then-parts-index+in_ok-push, else-parts-index}
use Rattle.parts_books.proofs.making_parts.messages_of.Goals as goal

pub loop-index-preserved : goal.loop-index-preserved
loop-index-preserved c =
    let parts = c.args.parts.now in
    let frames = c.args.frames.now in
    let part = c.args.part in
    let k = c.loop-index in
    let i = k.index in
    let rest = of_part part (drop (i + 1) (zip parts frames)) in
    let within : i < length parts = omega (arith, c.loop-index-test.true, c.requires) in
    let at = slice_get-get_or parts i 0 within in
    elim c.if-parts-index.branch [
      | then-parts-index+in_ok-push w ↦
          let f = w.index-frames-index.result in
          let here = slice_get-get_or frames i f c.loop-index-test.true ∙ ap Some (sym w.index-frames-index.is) in
          let items : c.if-parts-index.own.items ≡ k.own.items ++ f ∷ [] = ap (λ (own : Vec Frame Global). own.items) w.own-is ∙ w.in_ok-push.ensures.items in
          ap (λ (own : List Frame). own ++ rest) items ∙ append_assoc k.own.items (f ∷ []) rest
          ∙ ap (λ (left : List Frame). k.own.items ++ left) (sym (mine_left parts frames i (get_or parts i 0) part f at here w.if-parts-index.true))
          ∙ k.invariant
      | else-parts-index w ↦
          let here = some_at frames i c.loop-index-test.true in
          let items : c.if-parts-index.own.items ≡ k.own.items = ap (λ (own : Vec Frame Global). own.items) w.own-is in
          ap (λ (own : List Frame). own ++ rest) items
          ∙ ap (λ (left : List Frame). k.own.items ++ left) (sym (other_left parts frames i (get_or parts i 0) part here.0 at here.1 w.if-parts-index.false))
          ∙ k.invariant
    ]

pub returns : goal.returns
returns c =
    let parts = c.args.parts.now in
    let frames = c.args.frames.now in
    let part = c.args.part in
    let k = c.loop-index in
    let done : k.index ≡ length frames = omega (arith, c.loop-index-test.false) in
    let none : of_part part (drop k.index (zip parts frames)) ≡ []
    = ap (λ (n : ℕ). of_part part (drop n (zip parts frames))) done ∙ ap (of_part part) (zip_done parts frames c.requires) in
    sym (append-nil k.own.items) ∙ ap (λ (rest : List Frame). k.own.items ++ rest) (sym none) ∙ k.invariant
