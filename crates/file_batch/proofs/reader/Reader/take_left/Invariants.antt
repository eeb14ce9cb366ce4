use Rattle.std.proofs.Common.{◌≡◌, ◌+◌, ◌++◌, ℕ, List, length}
use Rattle.rtrb.specs.Ring.{received, known_items}
use Rattle.file_batch.specs.Pieces.{HasTold}
use Rattle.file_batch.proofs.reader.Reader.take_left.Given as goal

-- so many pieces are left, and the replies in those that were taken are in the text
abbrev pub invariant-loop : goal.invariant-loop
invariant-loop l = record {
  outbound : l.self.outbound ≡ l.fn.self.outbound;
  fifo : received l.self.inbound ++ known_items l.self.inbound ≡ received l.fn.self.inbound ++ known_items l.fn.self.inbound;
  left : length (known_items l.self.inbound) + l.counter ≡ l.left;
  told : (head : List ℕ) → HasTold head l.fn.self → HasTold head l.self;
}
