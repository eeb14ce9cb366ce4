use Rattle.std.proofs.Common.{◌≡◌}
use Rattle.rtrb.specs.Ring.{sent, SameProducer}
use Rattle.file_batch.proofs.handing.hand_over.Given as goal

-- nothing was handed over yet
abbrev pub invariant-loop : goal.invariant-loop
invariant-loop g l = SameProducer l.fn.outbound l.outbound × (sent l.outbound ≡ sent l.fn.outbound) × (l.piece ≡ l.initial.piece)
