use Rattle.std.proofs.Common.{map}
use Rattle.parts_books.proofs.Arrival.{IsReadTo}
use Rattle.parts_books.proofs.joining_replies.join_replies.Given as goal

-- the replies before this one are in order
abbrev pub invariant-loop-part : goal.invariant-loop-part
invariant-loop-part l = IsReadTo l.parts (map (λ list. list.items) l.replies) l.part-index l.next.items l.ordered.items
