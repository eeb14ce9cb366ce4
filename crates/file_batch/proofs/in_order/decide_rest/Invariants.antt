use Rattle.std.proofs.Common.{◌≡◌, ◌+◌, ◌++◌, ℕ, List, length}
use Rattle.issuer_rows.specs.Fold.{Rows, rows_after, replies_to}
use Rattle.rtrb.specs.Ring.{sent, received, known_items}
use Rattle.file_batch.specs.InOrder.{HasReplies}
use Rattle.file_batch.specs.Pieces.{HasCounted, HasDecided, HasTold, frames_in}
use Rattle.file_batch.proofs.in_order.decide_rest.Given as goal

-- so many pieces are left, and those before them are decided, with their replies in the text
abbrev pub invariant-loop : goal.invariant-loop
invariant-loop g l = record {
  fifo : received l.decider.inbound ++ known_items l.decider.inbound ≡ sent l.fn.reader.outbound;
  left : length (known_items l.decider.inbound) + l.counter ≡ l.left;
  counted : HasCounted l.decider;
  book : (book : Rows) → HasDecided book l.fn.decider → l.decider.prefix.book ≡ rows_after book (frames_in (received l.decider.inbound));
  told : (book : Rows) (head : List ℕ) → HasDecided book l.fn.decider → HasTold head l.fn.reader
      → HasReplies head (replies_to book (frames_in (received l.decider.inbound))) l.reader.out.items;
}
