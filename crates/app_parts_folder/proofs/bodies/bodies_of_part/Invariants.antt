use Rattle.std.proofs.Common.{◌≡◌, ◌++◌, drop, zip}
use Rattle.file_batch.specs.Bodies.{bytes_of}
use Rattle.issuer_laws.specs.Parts.{of_part}
use Rattle.app_parts_folder.proofs.bodies.bodies_of_part.Given as goal

-- the bodies of the part before this one are gathered
abbrev pub invariant-loop-index : goal.invariant-loop-index
invariant-loop-index l = bytes_of l.own.items ++ of_part l.part (drop l.index (zip l.parts (bytes_of l.bodies))) ≡ of_part l.part (zip l.parts (bytes_of l.bodies))
