use Rattle.std.proofs.Common.{◌≡◌, ℕ, ◌+◌, ◌<◌, [], List, Some, drop, zip, get_or, length, sym, ap, ◌∙◌, subst, arith}
use Rattle.std.proofs.lemmas.Option.{slice_get-get_or}
use Rattle.issuer_laws.specs.Parts.{of_part}
use Rattle.issuer_words.specs.Words.{Frame}
use Rattle.engine_parts.specs.Decided.{AreDecidedTo, bodies_of}
use Rattle.engine_parts.specs.declared.decided_part.DecidedPart.{DecidedPart}
use Rattle.engine_parts.proofs.OrderLaws.{zip_done}
use Rattle.engine_parts.proofs.QueueLaws.{some_at}
use Rattle.engine_parts.proofs.StepLaws.{all_decided_to, begins, goes_on, mine_left, other_left}
use Rattle.engine_parts.proofs.decided_part.DecidedPart.decide_own.Goals.{then-owner-part+in_ok-decide_next, else-owner-part}
use Rattle.engine_parts.proofs.decided_part.DecidedPart.decide_own.Goals as goal

pub loop-index-init : goal.loop-index-init
loop-index-init g c =
    rw (c.make_room.ensures.replies, c.make_room.ensures.rows, c.requires.replies, c.requires.rows) (begins c.args.opening.now (bodies_of c.args.part c.args.parts.now c.args.frames.now))

pub loop-index-preserved : goal.loop-index-preserved
loop-index-preserved g c =
    let parts = c.args.parts.now in
    let frames = c.args.frames.now in
    let part = c.args.part in
    let opening = c.args.opening.now in
    let all = bodies_of part parts frames in
    let i = c.loop-index.index in
    let was = c.loop-index.self in
    let rest = of_part part (drop (i + 1) (zip parts frames)) in
    let within : i < length parts = omega (arith, c.loop-index-test.true, c.requires.each) in
    let at = slice_get-get_or parts i 0 within in
    elim c.if-owner-part.branch [
      | then-owner-part+in_ok-decide_next w ↦
          let f = w.index-frames-index.result in
          let here = slice_get-get_or frames i f c.loop-index-test.true ∙ ap Some (sym w.index-frames-index.is) in
          let next = mine_left parts frames i (get_or parts i 0) part f at here w.if-owner-part.true in
          let step = goes_on opening all was.replies.items was.rows f rest (subst (λ (left : List Frame). AreDecidedTo opening all was.replies.items was.rows left) next c.loop-index.invariant) in
          subst (λ (self : DecidedPart). AreDecidedTo opening all self.replies.items self.rows rest) (sym w.self-is) (rw (w.in_ok-decide_next.ensures.replies, w.in_ok-decide_next.ensures.rows) step)
      | else-owner-part w ↦
          let here = some_at frames i c.loop-index-test.true in
          let next = other_left parts frames i (get_or parts i 0) part here.0 at here.1 w.if-owner-part.false in
          subst (λ (self : DecidedPart). AreDecidedTo opening all self.replies.items self.rows rest) (sym w.self-is)
          (subst (λ (left : List Frame). AreDecidedTo opening all was.replies.items was.rows left) next c.loop-index.invariant)
    ]

pub returns : goal.returns
returns g c =
    let parts = c.args.parts.now in
    let frames = c.args.frames.now in
    let part = c.args.part in
    let i = c.loop-index.index in
    let done : i ≡ length frames = omega (arith, c.loop-index-test.false) in
    let none : of_part part (drop i (zip parts frames)) ≡ []
    = ap (λ (n : ℕ). of_part part (drop n (zip parts frames))) done ∙ ap (of_part part) (zip_done parts frames c.requires.each) in
    let decided = all_decided_to c.args.opening.now (bodies_of part parts frames) c.loop-index.self.replies.items c.loop-index.self.rows (of_part part (drop i (zip parts frames))) c.loop-index.invariant none in
    record { replies = decided.0; rows = decided.1 }
