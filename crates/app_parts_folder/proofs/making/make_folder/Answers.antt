use Rattle.std.proofs.Common.{◌≡◌, ◌++◌, ◌∷◌, [], ap, length, arith, ◌∙◌}
use Rattle.sha2.specs.Sha256.{sha256}
use Rattle.app_parts_folder.specs.PlanTexts.{plan_text}
use Rattle.app_parts_folder.specs.Names.{plan_name, rest_name}
use Rattle.app_parts_folder.specs.Parting.{Parting, digests_of_part, plan_of_parting, rest_of}
use Rattle.app_parts_folder.proofs.Parts.{length-each}
use Rattle.app_parts_folder.proofs.making.make_folder.Goals as goal

pub plan_bytes-requires-clause-few : goal.plan_bytes-requires-clause-few
plan_bytes-requires-clause-few g c =
    omega (arith, ap length c.in_ok-made.ensures.made.digests, length-each (digests_of_part c.args.batch.now) c.args.batch.now.count, c.batch.invariant.planned.few, ap (λ (p : Parting). p.count) c.batch.view_is)

pub plan_bytes-requires-clause-messages : goal.plan_bytes-requires-clause-messages
plan_bytes-requires-clause-messages g c = omega (arith, ap length c.parts.ensures.parts, c.batch.invariant.planned.each, c.batch.invariant.few)

pub returns-clause-texts : goal.returns-clause-texts
returns-clause-texts g c =
    let p = c.args.batch.now in
    let folder = c.args.folder.now in
    let made = c.in_ok-made.ensures.made in
    let rest : c.in_ok-made.rest.items ≡ rest_of p = c.in_ok-made.ensures.rest in
    let rest_bytes = c.deref.ensures.value ∙ rest in
    let parts = c.parts.ensures.parts ∙ ap (λ (p : Parting). p.parts) c.batch.view_is in
    let plan : c.in_ok-plan.plan.items ≡ plan_text (plan_of_parting p) =
    c.in_ok-plan.ensures ∙ (λ i. plan_text (record { rest = sha256 (rest_bytes i); digests = made.digests i; parts = parts i })) in
    c.in_ok-texts.ensures
    ∙ (λ i. made.texts i ++ record { name = rest_name folder; text = rest i } ∷ record { name = plan_name folder; text = plan i } ∷ [])
