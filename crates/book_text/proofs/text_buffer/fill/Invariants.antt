use Rattle.std.proofs.Common.{◌≡◌, ◌-◌, ◌≤◌, length, take}
use Rattle.book_text.proofs.text_buffer.fill.Given as goal

-- the first bytes are those that were there
abbrev pub invariant-loop-bytes : goal.invariant-loop-bytes
invariant-loop-bytes l = (take (length l.fn.bytes.items) l.bytes.items ≡ l.fn.bytes.items) × (length l.fn.bytes.items ≤ length l.bytes.items)

abbrev pub decreases-loop-bytes : goal.decreases-loop-bytes
decreases-loop-bytes l = l.wanted - length l.bytes.items
