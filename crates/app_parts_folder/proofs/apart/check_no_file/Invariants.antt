use Rattle.std.proofs.Common.{ℕ, ◌<◌}
use Rattle.app_parts_folder.specs.Names.{IsOfPart}
use Rattle.app_parts_folder.proofs.apart.check_no_file.Given as goal

-- the name is none of a part before this one
abbrev pub invariant-loop-part : goal.invariant-loop-part
invariant-loop-part g l = g.F.Files.is_known l.files → (part : ℕ) → part < l.part → ¬ IsOfPart l.folder part l.name
