use Rattle.std.proofs.Common.{None, drop}
use Rattle.parts_books.proofs.Going.{IsGoing, is_taken}
use Rattle.parts_books.specs.PartBooks.{rest_rows}
use Rattle.parts_books.proofs.making_rest.rest_book.Given as goal

-- what the messages from this one on may need is to be taken
abbrev pub invariant-loop-frame : goal.invariant-loop-frame
invariant-loop-frame l = IsGoing (is_taken l.book) (drop l.frame-index l.frames) (λ q. None) l.rest (rest_rows l.book l.frames)
