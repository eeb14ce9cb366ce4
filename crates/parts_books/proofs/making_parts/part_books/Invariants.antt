use Rattle.std.proofs.Common.{◌≡◌, zip}
use Rattle.parts_books.specs.PartBooks.{each_part, part_rows}
use Rattle.parts_books.proofs.making_parts.part_books.Given as goal

-- the books of the parts before this one
abbrev pub invariant-loop-part : goal.invariant-loop-part
invariant-loop-part l = l.books.items ≡ each_part (part_rows l.book (zip l.parts l.frames)) l.part
