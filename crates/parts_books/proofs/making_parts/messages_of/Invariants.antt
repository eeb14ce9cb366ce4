use Rattle.std.proofs.Common.{◌≡◌, ◌++◌, drop, zip}
use Rattle.issuer_laws.specs.Parts.{of_part}
use Rattle.parts_books.proofs.making_parts.messages_of.Given as goal

-- the messages of the part before this one are gathered
abbrev pub invariant-loop-index : goal.invariant-loop-index
invariant-loop-index l = l.own.items ++ of_part l.part (drop l.index (zip l.parts l.frames)) ≡ of_part l.part (zip l.parts l.frames)
