use Rattle.std.proofs.Common.{◌≡◌, ℕ, ◌∷◌, Option, ap, ◌∙◌, subst, arith}
use Rattle.std.specs.Vec.Iter.{into_iter_items}
use Rattle.app_parts_folder.specs.Making.{AreMade}
use Rattle.app_parts_folder.specs.Parting.{Parting}
use Rattle.app_parts_folder.specs.declared.making.OnePart.{OnePart}
use Rattle.app_parts_folder.proofs.Parts.{first_made, rest_made}
use Rattle.app_parts_folder.proofs.making.make_parts.Goals as goal

pub add-requires-clause-next : goal.add-requires-clause-next
add-requires-clause-next g c =
    first_made c.args.batch.now c.loop-part.part (into_iter_items c.loop-part.ones) (into_iter_items c.next.new.self) c.in-Some-Some.one
    (c.in-Some-Some.ensures.items ∙ ap (λ (one : Option OnePart). one ∷ into_iter_items c.next.new.self) c.in-Some-Some.field-0-is) c.loop-part.invariant.left

pub loop-part-preserved : goal.loop-part-preserved
loop-part-preserved g c = record {
  made = c.in_ok-add.ensures;
  left = rest_made c.args.batch.now c.loop-part.part (into_iter_items c.loop-part.ones) (into_iter_items c.next.new.self) c.in-Some-Some.one
      (c.in-Some-Some.ensures.items ∙ ap (λ (one : Option OnePart). one ∷ into_iter_items c.next.new.self) c.in-Some-Some.field-0-is) c.loop-part.invariant.left;
}

pub returns : goal.returns
returns g c =
    let count : c.count-part-end.result ≡ c.args.batch.now.count = c.count-part-end.ensures.count ∙ ap (λ (p : Parting). p.count) c.batch.view_is in
    subst (λ (part : ℕ). AreMade c.args.folder.now c.args.batch.now part c.loop-part.made) (omega (arith, c.loop-part.auto.part-end, c.loop-part-test.false, count))
    c.loop-part.invariant.made
