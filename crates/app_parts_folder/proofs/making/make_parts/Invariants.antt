use Rattle.std.specs.Vec.Iter.{into_iter_items}
use Rattle.app_parts_folder.specs.Making.{AreMade, AreMadeFrom}
use Rattle.app_parts_folder.proofs.making.make_parts.Given as goal

-- the parts before this one are there, and those from it on are made
abbrev pub invariant-loop-part : goal.invariant-loop-part
invariant-loop-part g l = record {
  made : AreMade l.folder l.batch l.part l.made;
  left : AreMadeFrom l.batch l.part (into_iter_items l.ones);
}
