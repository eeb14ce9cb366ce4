use Rattle.std.proofs.Common.{◌≡◌, ◌++◌, drop}
use Rattle.std.specs.List.{flat_map}
use Rattle.app_parts_folder.specs.PlanTexts.{digests_text}
use Rattle.app_parts_folder.proofs.plan_writing.add_digests.Given as goal

abbrev pub invariant-loop-one : goal.invariant-loop-one
invariant-loop-one l = l.text.items ++ flat_map digests_text (drop l.one-index l.digests) ≡ l.fn.text.items ++ flat_map digests_text l.digests
