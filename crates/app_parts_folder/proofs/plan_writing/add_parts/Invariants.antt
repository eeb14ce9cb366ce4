use Rattle.std.proofs.Common.{◌≡◌, ◌++◌, drop}
use Rattle.app_parts_folder.proofs.plan_writing.add_parts.Given as goal

abbrev pub invariant-loop-part : goal.invariant-loop-part
invariant-loop-part l = l.text.items ++ drop l.part-index l.parts ≡ l.fn.text.items ++ l.parts
