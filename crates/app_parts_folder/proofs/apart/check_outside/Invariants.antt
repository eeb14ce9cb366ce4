use Rattle.std.proofs.Common.{ℕ, ◌<◌}
use Rattle.app_parts_folder.specs.Apart.{IsOutsidePart}
use Rattle.app_parts_folder.proofs.apart.check_outside.Given as goal

-- the name is none of a part before this one
abbrev pub invariant-loop-part : goal.invariant-loop-part
invariant-loop-part g l = g.F.Files.is_known l.files → (part : ℕ) → part < l.part → IsOutsidePart l.folder part l.name
