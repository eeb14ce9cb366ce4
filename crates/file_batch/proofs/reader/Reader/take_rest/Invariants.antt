use Rattle.std.proofs.Common.{◌≡◌, ℕ, List}
use Rattle.rtrb.specs.Ring.{SameConsumer}
use Rattle.file_batch.specs.Pieces.{HasTold}
use Rattle.file_batch.proofs.reader.Reader.take_rest.Given as goal

-- what came back is in the text
abbrev pub invariant-loop : goal.invariant-loop
invariant-loop g l = record {
  ends : (l.self.outbound ≡ l.fn.self.outbound) × SameConsumer l.fn.self.inbound l.self.inbound;
  told : (head : List ℕ) → HasTold head l.fn.self → HasTold head l.self;
}
