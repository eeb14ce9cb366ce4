use Rattle.std.proofs.Common.{◌≢◌, ℕ, ◌≤◌, below_more, arith}
use Rattle.app_parts_folder.specs.Names.{IsOfPart, plan_name, rest_name}
use Rattle.app_parts_folder.proofs.Outside.{no_file}
use Rattle.app_parts_folder.proofs.apart.check_no_file.Goals as goal

pub loop-part-preserved : goal.loop-part-preserved
loop-part-preserved g c = λ known.
    below_more (λ part. ¬ IsOfPart c.args.folder.now part c.args.name.now) c.loop-part.part (c.loop-part.invariant known) (c.in_ok-check_no_file_of.ensures.outside known)

pub returns-clause-outside : goal.returns-clause-outside
returns-clause-outside g c = λ known.
    let name = c.args.name.now in
    let folder = c.args.folder.now in
    let plan : name ≢ plan_name folder = rw (c.as_str.ensures.value, c.in_ok-plan.ensures) at c.in_ok-check_pair.ensures.apart known in
    let rest : name ≢ rest_name folder = rw (c.as_str-2.ensures.value, c.in_ok-rest.ensures) at c.in_ok-check_pair-2.ensures.apart known in
    no_file folder c.args.count name plan rest (λ part below. c.loop-part.invariant known part (omega (arith, below, c.loop-part-test.false)))
