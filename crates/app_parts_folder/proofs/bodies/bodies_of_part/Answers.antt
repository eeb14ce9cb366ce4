use Rattle.std.proofs.Common.{◌≡◌, ◌<◌, ◌+◌, ◌++◌, ◌∷◌, [], ℕ, List, Vec, Global, drop, zip, length, sym, ap, ◌∙◌, arith, append_assoc, append-nil}
use Rattle.file_batch.specs.Bodies.{bytes_of}
use Rattle.issuer_laws.specs.Parts.{of_part}
use Rattle.app_parts_folder.proofs.OwnBodies.{mine, none_left, one_behind, other}
use Rattle.app_parts_folder.proofs.bodies.bodies_of_part.Goals.{then-parts-index+in_ok-body+in_ok-push, else-parts-index}
use Rattle.app_parts_folder.proofs.bodies.bodies_of_part.Goals as goal

pub loop-index-preserved : goal.loop-index-preserved
loop-index-preserved c =
    let parts = c.args.parts.now in
    let bodies = c.args.bodies.now in
    let part = c.args.part in
    let k = c.loop-index in
    let i = k.index in
    let rest = of_part part (drop (i + 1) (zip parts (bytes_of bodies))) in
    let within : i < length parts = omega (arith, c.loop-index-test.true, c.requires) in
    elim c.if-parts-index.branch [
      | then-parts-index+in_ok-body+in_ok-push w ↦
          let items : c.if-parts-index.own.items ≡ k.own.items ++ w.in_ok-body.body ∷ [] = ap (λ (own : Vec (Vec ℕ Global) Global). own.items) w.own-is ∙ w.in_ok-push.ensures.items in
          let copy = w.in_ok-body.ensures ∙ w.deref.ensures.value in
          ap (λ (own : List (List ℕ)). own ++ rest) (ap bytes_of items ∙ one_behind k.own.items w.in_ok-body.body) ∙ append_assoc (bytes_of k.own.items) (w.in_ok-body.body.items ∷ []) rest
          ∙ ap (λ (left : List (List ℕ)). bytes_of k.own.items ++ left)
          (ap (λ (x : List ℕ). x ∷ rest) copy ∙ sym (mine parts bodies i part w.index-bodies-index.result within c.loop-index-test.true w.index-bodies-index.is w.if-parts-index.true))
          ∙ k.invariant
      | else-parts-index w ↦
          let items : c.if-parts-index.own.items ≡ k.own.items = ap (λ (own : Vec (Vec ℕ Global) Global). own.items) w.own-is in
          ap (λ (own : List (List ℕ)). own ++ rest) (ap bytes_of items)
          ∙ ap (λ (left : List (List ℕ)). bytes_of k.own.items ++ left) (sym (other parts bodies i part within c.loop-index-test.true w.if-parts-index.false))
          ∙ k.invariant
    ]

pub returns : goal.returns
returns c =
    let k = c.loop-index in
    let own = bytes_of k.own.items in
    let none : of_part c.args.part (drop k.index (zip c.args.parts.now (bytes_of c.args.bodies.now))) ≡ [] =
    ap (of_part c.args.part) (none_left c.args.parts.now c.args.bodies.now k.index c.requires (omega (arith, c.loop-index-test.false))) in
    sym (append-nil own) ∙ ap (λ (rest : List (List ℕ)). own ++ rest) (sym none) ∙ k.invariant
