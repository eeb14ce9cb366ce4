use Rattle.std.proofs.Common.{◌≡◌, ◌≤◌, ◌++◌, drop, length, zip}
use Rattle.issuer_laws.specs.Parts.{of_part}
use Rattle.engine_parts.specs.Decided.{bodies_of}
use Rattle.engine_parts.proofs.gathering.gather.Given as goal

-- the messages of the part before this one are gathered
abbrev pub invariant-loop-index : goal.invariant-loop-index
invariant-loop-index l = record {
  so_far : l.own.items ++ of_part l.part (drop l.index (zip l.parts l.frames)) ≡ bodies_of l.part l.parts l.frames;
  few : length l.own.items ≤ l.index;
}
