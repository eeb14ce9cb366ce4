use Rattle.issuer_rows.specs.Fold.{Rows}
use Rattle.rtrb.specs.Ring.{SameProducer, SameConsumer}
use Rattle.file_batch.specs.Pieces.{HasCounted, HasDecided}
use Rattle.file_batch.proofs.decider.Decider.work.Given as goal

-- what came is decided
abbrev pub invariant-loop : goal.invariant-loop
invariant-loop g l = record {
  ends : SameConsumer l.fn.self.inbound l.self.inbound × SameProducer l.fn.self.outbound l.self.outbound;
  counted : HasCounted l.self;
  decided : (book : Rows) → HasDecided book l.fn.self → HasDecided book l.self;
}
