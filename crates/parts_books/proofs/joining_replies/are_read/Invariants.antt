use Rattle.std.proofs.Common.{◌≡◌, ◌<◌, ℕ, [], drop, map, slice_index}
use Rattle.engine_parts.specs.Decided.{list_at}
use Rattle.parts_books.proofs.joining_replies.are_read.Given as goal

-- the lists before this one are read
abbrev pub invariant-loop-part : goal.invariant-loop-part
invariant-loop-part l = (part : ℕ) → part < l.part → drop (slice_index l.next part) (list_at (map (λ list. list.items) l.replies) part) ≡ []
