use Rattle.std.proofs.Common.{◌≡◌, ◌+◌, ◌≤◌, ℕ, length, slice_index}
use Rattle.engine_parts.specs.Decided.{AreInOrder, replies_of}
use Rattle.engine_parts.proofs.joining.in_order.Given as goal

-- the replies before this one are in order
abbrev pub invariant-loop-part : goal.invariant-loop-part
invariant-loop-part l = record {
  long : length l.next.items ≡ length l.others + 1;
  small : (part : ℕ) → slice_index l.next.items part ≤ l.part-index;
  so_far : AreInOrder l.parts (replies_of l.others l.last) l.part-index l.next.items l.ordered.items;
}
