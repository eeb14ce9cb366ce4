use Rattle.std.proofs.Common.{◌≡◌, ℕ, ◌≤◌, length, List, ap, subst, zip, arith, ◌∙◌}
use Rattle.std.specs.Global.{Vec}
use Rattle.issuer_laws.specs.Parts.{AreApart}
use Rattle.issuer_words.specs.Words.{Frame, Rows}
use Rattle.engine_parts.specs.Plan.{IsNumbered, Planned}
use Rattle.app_parts_folder.proofs.InParts.{in_parts}
use Rattle.app_parts_folder.specs.BatchInParts.{parting_of}
use Rattle.app_parts_folder.specs.Parting.{IsPlanned}
use Rattle.app_parts_folder.proofs.planning.plan_batch.Goals as goal

-- what a plan says of the frames that it was made of holds of the batch that has them
is_planned : (book : Rows) (bodies : List (Vec ℕ)) (frames seen : List Frame) (plan : Planned) (most : ℕ) → IsNumbered plan → plan.count ≤ most → length plan.parts ≡ length seen → AreApart book (zip plan.parts seen)
    → seen ≡ frames → IsPlanned (parting_of book bodies frames plan) most
is_planned book bodies frames seen plan most numbered few each apart same = record {
  some = numbered.some;
  few = few;
  each = each ∙ ap length same;
  below = numbered.below;
  apart = subst (λ fs. AreApart book (zip plan.parts fs)) same apart;
}

pub invariant_of-result : goal.invariant_of-result
invariant_of-result c =
    let plan = c.in_ok-plan.ensures in
    let frames = c.in_ok-frames.frames.items in
    let bodies = c.in_ok-bodies.bodies.items in
    let planned = is_planned c.args.book bodies frames _ c.in_ok-plan.plan c.args.most plan.numbered (omega (arith, plan.most, c.count.ensures.value)) plan.each plan.apart c.deref.ensures.value in
    in_parts c.args.batch.now (parting_of c.args.book bodies frames c.in_ok-plan.plan) c.args.most planned
    (omega (arith, c.count.ensures.value, c.count.ensures.high)) c.in_ok-bodies.ensures.bodies c.in_ok-frames.ensures.frames c.in_ok-frames.ensures.few

pub returns-clause-planned : goal.returns-clause-planned
returns-clause-planned c =
    let plan = c.in_ok-plan.ensures in
    is_planned c.args.book c.in_ok-bodies.bodies.items c.in_ok-frames.frames.items _ c.in_ok-plan.plan c.args.most plan.numbered (omega (arith, plan.most, c.count.ensures.value)) plan.each plan.apart c.deref.ensures.value
